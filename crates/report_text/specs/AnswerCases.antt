-- Lines of answers, written out: one for each kind of answer and of refusal of a reply.
use Rattle.std.specs.Prelude.{◌≡◌, ℕ, Bool, true, false, List, [], ◌∷◌, codes, pos, negsuc, Some, None, refl}
use Rattle.std.specs.Fmt.{digits}
use Rattle.json.specs.Print.{escape_byte}
use Rattle.aerie_base.specs.Paths.{root}
use Rattle.aerie_base.specs.declared.plans.Edge.TheVariants.{End}
use Rattle.aerie_base.specs.declared.plans.Plan.{Plan}
use Rattle.aerie_base.specs.declared.values.Value.TheVariants.{Int, Variant}
use Rattle.aerie_base.specs.declared.faults.Fault.TheVariants.{Range}
use Rattle.goals.specs.declared.status.GoalStatus.{GoalStatus}
use Rattle.goals.specs.declared.unmet.Rejection.TheVariants.{Unfilled, Violates}
use Rattle.goals.specs.declared.unmet.Unmet.TheVariants.{Open, Broken}
use Rattle.json_line.specs.Json.{line_of}
use Rattle.epoch_text.specs.DayTexts.{day_in_year}
use Rattle.constraints.specs.declared.types.Rule.TheVariants.{Forbid}
use Rattle.hangar_core.specs.declared.actions.Action.TheVariants.{New, Fetch}
use Rattle.hangar_core.specs.declared.replies.Reply.{Reply}
use Rattle.hangar_core.specs.declared.replies.Reply.TheVariants as reply
use Rattle.json_line.specs.Parts.{member_if}
use Rattle.plan_edit.specs.declared.errors.EditError.TheVariants as edit
use Rattle.plan_merge.specs.declared.answers.ConflictKind.TheVariants.{Both}
use Rattle.plan_merge.specs.declared.answers.MergeError.TheVariants as merge
use Rattle.run_data.specs.KeptRuns.{KeptRun}
use Rattle.run_data.specs.declared.runs.Outcome.TheVariants.{Completed, Failed}
use Rattle.run_data.specs.declared.runs.Who.TheVariants.{Cell}
use Rattle.report_text.specs.JournalLines.{journal_data}
use Rattle.report_text.specs.Replies.{reply_data}
use Rattle.report_text.specs.ReportCases.{camera}
use Rattle.report_text.specs.declared.answers.Answer.{Answer}
use Rattle.report_text.specs.declared.answers.Answer.TheVariants as answer
use Rattle.report_text.specs.declared.answers.Report.{Report}

-- the line of an answer to the command 2 of the client `ops`, on the branch `main`
abbrev told : Bool → Answer → List ℕ
told named answer = line_of (reply_data (codes "ops") 2 (codes "main") camera named answer)

abbrev replied : Reply → List ℕ
replied reply = told false (answer.Reply reply)

-- two directives, the second behind the end of the first
abbrev planned : Plan
planned = record {
  model = 0;
  duration = 100;
  next_id = 3;
  directives = record { id = 1; start = 5; anchor = None; kind = 0; arguments = Int (pos 3) ∷ Variant 0 1 ∷ [] }
      ∷ record { id = 2; start = 7; anchor = Some (record { to = 1; edge = End }); kind = 0; arguments = Int (negsuc 0) ∷ Variant 0 0 ∷ [] } ∷ [];
}

-- a run of nothing
abbrev quiet : KeptRun
quiet = record { model = camera; run = record { plan = planned; bound = 1000; instants = []; reach = 100; outcome = Completed } }

-- ---- the journal

pub nothing_done : line_of (journal_data []) ≡ codes "[]\n"
nothing_done = refl

pub two_entries : line_of (journal_data ((record { client = 0; command = 1; part = 0; action = New (codes "b") }, reply.Opened 0)
    ∷ (record { client = 12; command = 0; part = 3; action = Fetch (codes "b") }, reply.NoBranch) ∷ [])) ≡ codes "[[0,1,0],[12,0,3]]\n"
unfolding digits
two_entries = refl

-- ---- what is accepted

pub a_new_branch : replied (reply.Opened 0) ≡ codes "{\"client\":\"ops\",\"command\":2,\"ok\":{\"branch\":\"main\",\"revision\":0}}\n"
unfolding digits escape_byte
a_new_branch = refl

pub a_dropped_branch : replied reply.Dropped ≡ codes "{\"client\":\"ops\",\"command\":2,\"ok\":{\"branch\":\"main\"}}\n"
unfolding digits escape_byte
a_dropped_branch = refl

pub a_new_directive : replied (reply.Added 7 3) ≡ codes "{\"client\":\"ops\",\"command\":2,\"ok\":{\"branch\":\"main\",\"id\":7,\"revision\":3}}\n"
unfolding digits escape_byte
a_new_directive = refl

pub an_edit : replied (reply.Edited 4) ≡ codes "{\"client\":\"ops\",\"command\":2,\"ok\":{\"branch\":\"main\",\"revision\":4}}\n"
unfolding digits escape_byte
an_edit = refl

pub a_load : replied (reply.Loaded 8 2 5) ≡ codes "{\"client\":\"ops\",\"command\":2,\"ok\":{\"branch\":\"main\",\"count\":2,\"first\":8,\"revision\":5}}\n"
unfolding digits escape_byte
a_load = refl

pub a_plan : replied (reply.Fetched 6 planned None)
    ≡ codes "{\"client\":\"ops\",\"command\":2,\"ok\":{\"branch\":\"main\",\"plan\":{\"directives\":[{\"arguments\":{\"mode\":\"Mode.WIDE\",\"shots\":3},\"id\":1,\"start\":5,\"type\":\"Take\"},{\"anchor\":{\"edge\":\"end\",\"to\":1},\"arguments\":{\"mode\":\"Mode.OFF\",\"shots\":-1},\"id\":2,\"start\":7,\"type\":\"Take\"}]},\"revision\":6}}\n"
unfolding member_if digits escape_byte
a_plan = refl

-- where there is more than one model
pub an_empty_plan : told true (answer.Reply (reply.Fetched 0 (record planned { directives = [] }) None))
    ≡ codes "{\"client\":\"ops\",\"command\":2,\"ok\":{\"branch\":\"main\",\"model\":\"camera\",\"plan\":{\"directives\":[]},\"revision\":0}}\n"
unfolding member_if digits escape_byte
an_empty_plan = refl

-- a goal that is met, one that a later one broke, and for each other reason one whose gap is open
abbrev statuses : List GoalStatus
statuses =
    record { goal = codes "twice"; met = true; placed = 4 ∷ 5 ∷ []; why = None }
    ∷ record { goal = codes "once"; met = false; placed = []; why = Some Broken }
    ∷ record { goal = codes "hourly"; met = false; placed = []; why = Some (Open (record { gap = record { at = pos 15 }; tried = 10; last = Some (Violates (codes "few") 25) })) }
    ∷ record { goal = codes "often"; met = false; placed = 6 ∷ []; why = Some (Open (record { gap = record { at = pos 3 }; tried = 2; last = Some (Unfilled (Failed 5 (Cell 0) Range)) })) }
    ∷ record { goal = codes "late"; met = false; placed = []; why = Some (Open (record { gap = record { at = pos 0 }; tried = 0; last = None })) }
    ∷ []

pub a_schedule : told false (answer.Schedule (record { model = camera; revision = 9; goals = statuses; trials = 3; detail = false }))
    ≡ codes "{\"client\":\"ops\",\"command\":2,\"ok\":{\"branch\":\"main\",\"goals\":[{\"goal\":\"twice\",\"met\":true,\"placed\":[4,5]},{\"goal\":\"once\",\"met\":false,\"placed\":[]},{\"goal\":\"hourly\",\"met\":false,\"placed\":[]},{\"goal\":\"often\",\"met\":false,\"placed\":[6]},{\"goal\":\"late\",\"met\":false,\"placed\":[]}],\"revision\":9,\"trials\":3}}\n"
unfolding member_if digits escape_byte
a_schedule = refl

-- with details
pub a_detailed_schedule : told false (answer.Schedule (record { model = camera; revision = 9; goals = statuses; trials = 12; detail = true }))
    ≡ codes "{\"client\":\"ops\",\"command\":2,\"ok\":{\"branch\":\"main\",\"goals\":[{\"goal\":\"twice\",\"met\":true,\"placed\":[4,5]},{\"goal\":\"once\",\"met\":false,\"placed\":[],\"why\":{\"later\":true}},{\"goal\":\"hourly\",\"met\":false,\"placed\":[],\"why\":{\"constraint\":\"few\",\"gap\":15,\"time\":25,\"tried\":10}},{\"goal\":\"often\",\"met\":false,\"placed\":[6],\"why\":{\"gap\":3,\"outcome\":{\"failed\":{\"cell\":\"taken\",\"fault\":\"Range\",\"time\":5}},\"tried\":2}},{\"goal\":\"late\",\"met\":false,\"placed\":[],\"why\":{\"gap\":0,\"tried\":0}}],\"revision\":9,\"trials\":12}}\n"
unfolding member_if digits escape_byte
a_detailed_schedule = refl

pub a_merge : told false (answer.Merge 10 (6 ∷ 7 ∷ [])) ≡ codes "{\"client\":\"ops\",\"command\":2,\"ok\":{\"added\":[6,7],\"branch\":\"main\",\"revision\":10}}\n"
unfolding digits escape_byte
a_merge = refl

-- ---- reports

pub a_report : told false (answer.Report (record { start = pos 1_861_920_000_000_000; run = quiet; constraints = []; revision = 11; attached = true; statements = None; detail = false }))
    ≡ codes "{\"client\":\"ops\",\"command\":2,\"ok\":{\"attached\":true,\"branch\":\"main\",\"outcome\":\"completed\",\"profiles\":[],\"reach\":100,\"revision\":11,\"spans\":[],\"violations\":[]}}\n"
unfolding member_if digits escape_byte
a_report = refl

-- where there is more than one model, the statements are told, and the branch is gone
pub a_longer_report : told true (answer.Report (record { start = pos 1_861_920_000_000_000; run = quiet; constraints = []; revision = 11; attached = false; statements = Some 12; detail = false }))
    ≡ codes "{\"client\":\"ops\",\"command\":2,\"ok\":{\"attached\":false,\"branch\":\"main\",\"model\":\"camera\",\"outcome\":\"completed\",\"profiles\":[],\"reach\":100,\"revision\":11,\"spans\":[],\"statements\":12,\"violations\":[]}}\n"
unfolding member_if digits escape_byte
a_longer_report = refl

-- with details: no directive of the type lasts beside another
pub a_detailed_report : told false (answer.Report (record { start = pos 1_861_920_000_000_000; run = quiet; constraints = record { name = codes "alone"; rule = Forbid 0 0 } ∷ []; revision = 11; attached = true; statements = None; detail = true }))
    ≡ codes "{\"client\":\"ops\",\"command\":2,\"ok\":{\"attached\":true,\"branch\":\"main\",\"cells\":[{\"kind\":\"counter\",\"name\":\"taken\",\"value\":\"0\"}],\"constraints\":[{\"datasets\":[],\"name\":\"alone\",\"resources\":[],\"types\":[\"Take\"]}],\"datasets\":[],\"duration\":100,\"outcome\":\"completed\",\"profiles\":[],\"reach\":100,\"revision\":11,\"spans\":[],\"start\":\"2029-001T00:00:00.000000\",\"violations\":[]}}\n"
unfolding member_if digits day_in_year escape_byte
a_detailed_report = refl

-- commands in the plan are told in the calendar too, those outside are not
pub an_expansion : told true (answer.Expanded (record {
  start = pos 1_861_920_000_000_000;
  run = quiet;
  sequence = record {
    commands = record { at = pos 5; path = root 1; name = codes "shoot"; arguments = Int (pos 3) ∷ Variant 0 1 ∷ [] } ∷ [];
    outside = record { at = negsuc 1; path = root 1; name = codes "warm"; arguments = [] } ∷ [];
    close = 0 ∷ [];
  };
  revision = 12;
}))
    ≡ codes "{\"client\":\"ops\",\"command\":2,\"ok\":{\"branch\":\"main\",\"close\":[0],\"commands\":[{\"arguments\":[3,\"Mode.WIDE\"],\"at\":5,\"name\":\"shoot\",\"path\":\"1\",\"utc\":\"2029-001T00:00:00.000005\"}],\"outcome\":\"completed\",\"outside\":[{\"arguments\":[],\"at\":-2,\"name\":\"warm\",\"path\":\"1\"}],\"revision\":12}}\n"
unfolding digits day_in_year escape_byte
an_expansion = refl

-- ---- refusals

pub no_branch : replied reply.NoBranch ≡ codes "{\"client\":\"ops\",\"command\":2,\"refused\":{\"name\":\"NoBranch\"}}\n"
unfolding digits escape_byte
no_branch = refl

pub branch_exists : replied reply.BranchExists ≡ codes "{\"client\":\"ops\",\"command\":2,\"refused\":{\"name\":\"BranchExists\"}}\n"
unfolding digits escape_byte
branch_exists = refl

pub too_many_branches : replied reply.TooManyBranches ≡ codes "{\"client\":\"ops\",\"command\":2,\"refused\":{\"name\":\"TooManyBranches\"}}\n"
unfolding digits escape_byte
too_many_branches = refl

pub no_mapping : replied reply.NoMapping ≡ codes "{\"client\":\"ops\",\"command\":2,\"refused\":{\"name\":\"NoMapping\"}}\n"
unfolding digits escape_byte
no_mapping = refl

pub unmapped : replied (reply.Unmapped 7) ≡ codes "{\"client\":\"ops\",\"command\":2,\"refused\":{\"id\":7,\"name\":\"Unmapped\"}}\n"
unfolding digits escape_byte
unmapped = refl

pub misfit : replied (reply.Misfit 7 1) ≡ codes "{\"client\":\"ops\",\"command\":2,\"refused\":{\"id\":7,\"name\":\"Misfit\",\"number\":1}}\n"
unfolding digits escape_byte
misfit = refl

pub bad_argument : replied (reply.Edit (edit.BadArgument (codes "shots"))) ≡ codes "{\"client\":\"ops\",\"command\":2,\"refused\":{\"name\":\"BadArgument\",\"parameter\":\"shots\"}}\n"
unfolding digits escape_byte
bad_argument = refl

pub invalid : replied (reply.Edit (edit.Invalid 1)) ≡ codes "{\"client\":\"ops\",\"command\":2,\"refused\":{\"name\":\"Invalid\",\"number\":1}}\n"
unfolding digits escape_byte
invalid = refl

pub anchored : replied (reply.Edit (edit.Anchored 2)) ≡ codes "{\"client\":\"ops\",\"command\":2,\"refused\":{\"by\":2,\"name\":\"Anchored\"}}\n"
unfolding digits escape_byte
anchored = refl

pub no_directive : replied (reply.Edit edit.NoDirective) ≡ codes "{\"client\":\"ops\",\"command\":2,\"refused\":{\"name\":\"NoDirective\"}}\n"
unfolding digits escape_byte
no_directive = refl

pub no_plan : replied (reply.Edit edit.NotAPlan) ≡ codes "{\"client\":\"ops\",\"command\":2,\"refused\":{\"name\":\"NotAPlan\"}}\n"
unfolding digits escape_byte
no_plan = refl

pub stale : replied (reply.Stale 3 5) ≡ codes "{\"client\":\"ops\",\"command\":2,\"refused\":{\"name\":\"Stale\",\"now\":5,\"seen\":3}}\n"
unfolding digits escape_byte
stale = refl

pub other_model : told false answer.OtherModel ≡ codes "{\"client\":\"ops\",\"command\":2,\"refused\":{\"name\":\"OtherModel\"}}\n"
unfolding digits escape_byte
other_model = refl

pub conflicts : told false (answer.MergeRefused (merge.Conflicts (record { id = 1; kind = Both } ∷ [])))
    ≡ codes "{\"client\":\"ops\",\"command\":2,\"refused\":{\"conflicts\":[{\"id\":1,\"kind\":\"both\"}],\"name\":\"Conflicts\"}}\n"
unfolding digits escape_byte
conflicts = refl

pub too_many : told false (answer.MergeRefused merge.TooMany) ≡ codes "{\"client\":\"ops\",\"command\":2,\"refused\":{\"name\":\"TooMany\"}}\n"
unfolding digits escape_byte
too_many = refl
