-- When all works are done and all passes are taken back, the text is that of the session along a journal that fits.
use Rattle.std.proofs.Common.{String, Global, get_or, ◌≡◌, ℕ, zero, suc, ◌+◌, ◌<◌, List, [], ◌∷◌, ◌++◌, length, map, Option, Some, None, IfSome, refl, sym, ap, ◌∙◌, subst, arith, slice_get}
use Rattle.std.specs.List.{AllByRecursion, filter}
use Rattle.std.specs.String.{string_bytes}
use Rattle.std.proofs.lemmas.Option.{slice_get_within}
use Rattle.json_line.specs.Json.{line_of}
use Rattle.commands.specs.declared.commands.Command.{Command}
use Rattle.hangar_core.specs.Fits.{commands_of, is_of_client, Meanings}
use Rattle.hangar_core.specs.Journals.{Entries, IsReplay}
use Rattle.hangar_lock.specs.laws.JoinedPasses.{all_mine, AreNumbered, AreOfOneLock, AreWorked, HasWorkedAlone, joined_with_all, JoinedPassesAreWhole, JoinedPassesFit, JoinedPassesHaveAll, PassesHaveTheirEntries}
use Rattle.hangar_lock.specs.Passes.{first_pass, IsWhole, joined_with, LockView, PassView}
use Rattle.hangar_lock.specs.Places.{HaveAllOf, Places, StandIn}
use Rattle.report_text.specs.JournalLines.{journal_data}
use Rattle.session_reader.specs.declared.session.Client.{Client}
use Rattle.session_judge.specs.declared.judged.JudgedSession.{JudgedSession}
use Rattle.client_work.specs.declared.missions.Mission.{Mission}
use Rattle.client_work.specs.declared.missions.ReportForm.{ReportForm}
use Rattle.client_work.specs.laws.ClientsWork.{ToldWorksAreDone}
use Rattle.session_reader.specs.FewClients.{AreFewClients}
use Rattle.client_work.specs.Working.{IsAtWork, IsWorkDone, IsWorkTold, own_entries, work_of}
use Rattle.session_run.specs.declared.on_threads.Done.{Done}
use Rattle.session_run.specs.declared.on_threads.Work.{Work}
use Rattle.session_run.specs.Joined.{joined_texts}
use Rattle.session_run.specs.Missions.{all_commands, mission_of, opening_of, session_meanings}
use Rattle.session_run.specs.Performed.{IsPerformed}
use Rattle.session_run.specs.Texts.{client_numbered}
use Rattle.session_run.specs.Works.{AreDone, AreOf, AreWorksOf, CanWork, numbered_pass, passes_of, split_often, works_texts}
use Rattle.session_run.proofs.Finished.{AreToldSomehow, joined, with_totals}
use Rattle.session_run.proofs.Rounds.{get_mapped, mapped_length, none_some, same_some}

-- ---- lists

there : {A : Type 0} (xs : List A) (at : ℕ) → at < length xs → (x : A) × (slice_get xs at ≡ Some x)
there [] at less = absurd (omega (arith, less))
there (x ∷ xs) zero less = (x, refl)
there (x ∷ xs) (suc at) less = there xs at (omega (arith, less))

unmapped : {A B : Type 0} (f : A → B) (xs : List A) (at : ℕ) (y : B) → slice_get (map f xs) at ≡ Some y → (x : A) × (slice_get xs at ≡ Some x) × (f x ≡ y)
unmapped f [] at y e = absurd (none_some y e)
unmapped f (x ∷ xs) zero y e = (x, refl, same_some (f x) y e)
unmapped f (x ∷ xs) (suc at) y e = unmapped f xs at y e

pub got : {A : Type 0} (xs : List A) (at : ℕ) (x : A) → slice_get xs at ≡ Some x → get_or xs at x ≡ x
got [] at x e = absurd (none_some x e)
got (y ∷ xs) zero x e = same_some y x e
got (y ∷ xs) (suc at) x e = got xs at x e

commands_at : (clients : List Client) (which : ℕ) (client : Client) → slice_get clients which ≡ Some client → commands_of which (all_commands clients) ≡ client.commands
commands_at [] which client e = absurd (none_some client e)
commands_at (first ∷ clients) zero client e = ap (λ (x : Client). x.commands) (same_some first client e)
commands_at (first ∷ clients) (suc which) client e = commands_at clients which client e

numbered_from : (base : ℕ) (passes : List PassView) → ((which : ℕ) (pass : PassView) → slice_get passes which ≡ Some pass → (pass.stands ≡ (base + which + 1) ∷ []) × (pass.split ≡ 0)) → AreNumbered base passes
numbered_from base [] are = tt
numbered_from base (pass ∷ passes) are =
    let first = are 0 pass refl in
    let here : base + 0 + 1 ≡ base + 1 = omega arith in (
      first.0 ∙ ap (λ (n : ℕ). n ∷ []) here,
      first.1,
      numbered_from (base + 1) passes (λ which x at.
          let next : base + suc which + 1 ≡ base + 1 + which + 1 = omega arith in
          ((are (suc which) x at).0 ∙ ap (λ (n : ℕ). n ∷ []) next, (are (suc which) x at).1)),
    )

by_index : {A : Type 0} (P : A → Type 0) (xs : List A) → ((at : ℕ) (x : A) → slice_get xs at ≡ Some x → P x) → AllByRecursion P xs
by_index P [] each = tt
by_index P (x ∷ xs) each = (each 0 x refl, by_index P xs (λ at. each (suc at)))

weaker : {A : Type 0} (o : Option A) (P Q : A → Type 0) → ((a : A) → P a → Q a) → IfSome o P → IfSome o Q
weaker None P Q f h = tt
weaker (Some a) P Q f h = f a h

-- ---- works

pub joined_lock : (first : PassView) (passes : List PassView) → (joined_with_all first passes).lock ≡ first.lock
joined_lock first [] = refl
joined_lock first (pass ∷ passes) = joined_lock (joined_with first pass) passes

pub can_work : (mission : Mission) (lock : LockView) (clients : List Client) (works : List Work) → AreWorksOf lock (length clients) works → AreFewClients clients →
    IsAtWork mission lock (first_pass lock) → AllByRecursion (CanWork mission lock clients) works
can_work mission lock clients works of few at =
    by_index (CanWork mission lock clients) works (λ which work found.
    let is = of.each which work found in
    let below = slice_get_within works which work found in
    let number = is.0 in
    let many = of.many in
    record {
      at = subst (IsAtWork mission lock) (sym is.1) (record { own = refl; some_model = at.some_model; models = at.models; ruled = at.ruled; bound = at.bound });
      within = omega (arith, below, number, many);
      few = few;
    })

pub are_of : (mission : Mission) (lock : LockView) (clients : List Client) (works : List Work) (dones : List Done) → AreWorksOf lock (length clients) works →
    AreDone mission clients works dones → AreOf lock dones
are_of mission lock clients works dones of done =
    by_index (λ (x : Done). IfSome x.text (λ text. x.pass.lock ≡ lock)) dones (λ which x found.
    let below = slice_get_within dones which x found in
    let many = done.many in
    let works_many = of.many in
    let work = there works which (omega (arith, below, many)) in
    let client = there clients which (omega (arith, below, many, works_many)) in
    let is = of.each which work.0 work.1 in
    let did = done.each which work.0 x work.1 found client.0 (ap (slice_get clients) is.0 ∙ client.1) in
    weaker x.text (λ text. IsWorkDone (work_of mission (client_numbered work.0.which client.0) client.0.commands) work.0.pass x.pass (string_bytes text)) (λ text. x.pass.lock ≡ lock)
    (λ text told. told.gains.lock ∙ ap (λ (pass : PassView). pass.lock) is.1) did)

-- nothing was wanting, and these are the texts
pub record HaveToldAll (dones : List Done) (texts : List (List ℕ)) : Type 0 where
  pub many : length texts ≡ length dones
  pub each : (which : ℕ) (done : Done) → slice_get dones which ≡ Some done → (text : String Global) × (done.text ≡ Some text) × (slice_get texts which ≡ Some (string_bytes text))

pub all_told_of : (dones : List Done) (texts : List (String Global)) → works_texts dones ≡ map Some texts → HaveToldAll dones (map string_bytes texts)
all_told_of dones texts e = record {
  many = mapped_length string_bytes texts ∙ sym (mapped_length Some texts) ∙ ap length (sym e) ∙ mapped_length (λ (done : Done). done.text) dones;
  each = λ which done at.
      let has = ap (λ (l : List (Option (String Global))). slice_get l which) (sym e) ∙ get_mapped (λ (done : Done). done.text) dones which done at in
      let text = unmapped {B = Option (String Global)} Some texts which done.text has in
      (text.0, sym text.2, get_mapped string_bytes texts which text.0 text.1);
}

-- ---- all works

module _ (judged : JudgedSession) (bound : ℕ) (form : ReportForm) (lock : LockView) (works : List Work) (dones : List Done) (texts : List (List ℕ))
    (of : AreWorksOf lock (length judged.session.clients) works)
    (done : AreDone (mission_of judged bound form) judged.session.clients works dones)
    (told : HaveToldAll dones texts) where
  abbrev mission : Mission
  mission = mission_of judged bound form

  abbrev clients : List Client
  clients = judged.session.clients

  abbrev meanings : Meanings
  meanings = session_meanings judged bound

  abbrev first : PassView
  first = split_often (length clients) (first_pass lock)

  -- what one client did
  record IsOneDone (which : ℕ) (client : Client) (pass : PassView) : Type 0 where
    text : List ℕ
    written : slice_get texts which ≡ Some text
    work : IsWorkDone (work_of mission (client_numbered which client) client.commands) (numbered_pass lock which) pass text

  one_done : (which : ℕ) (client : Client) (pass : PassView) → slice_get clients which ≡ Some client → slice_get (passes_of dones) which ≡ Some pass → IsOneDone which client pass
  one_done which client pass place at =
      let x = unmapped (λ (d : Done). d.pass) dones which pass at in
      let t = told.each which x.0 x.1 in
      let many = done.many in
      let below = slice_get_within dones which x.0 x.1 in
      let w = there works which (omega (arith, many, below)) in
      let is = of.each which w.0 w.1 in
      let work = done.each which w.0 x.0 w.1 x.1 client (ap (slice_get clients) is.0 ∙ place) in
      let has = subst (λ (z : Option (String Global)). IfSome z (λ text. IsWorkDone (work_of mission (client_numbered w.0.which client) client.commands) w.0.pass x.0.pass (string_bytes text))) t.1 work in
      record {
        text = string_bytes t.0;
        written = t.2;
        work =
            subst (λ (p : PassView). IsWorkDone (work_of mission (client_numbered which client) client.commands) (numbered_pass lock which) p (string_bytes t.0)) x.2
            (subst (λ (p : PassView). IsWorkDone (work_of mission (client_numbered which client) client.commands) p x.0.pass (string_bytes t.0)) is.1
            (subst (λ (n : ℕ). IsWorkDone (work_of mission (client_numbered n client) client.commands) w.0.pass x.0.pass (string_bytes t.0)) is.0 has));
      }

  passes_many : length (passes_of dones) ≡ length clients
  passes_many = mapped_length (λ (d : Done). d.pass) dones ∙ done.many ∙ of.many

  pass_there : (which : ℕ) (pass : PassView) → slice_get (passes_of dones) which ≡ Some pass → (client : Client) × (slice_get clients which ≡ Some client)
  pass_there which pass at = let below = slice_get_within (passes_of dones) which pass at in let many = passes_many in there clients which (omega (arith, below, many))

  pub of_one_lock : AreOfOneLock first (passes_of dones)
  of_one_lock = record {
    root = refl;
    split = (let many = passes_many in omega (arith, many));
    numbered = numbered_from 0 (passes_of dones) (λ which pass at.
        let client = pass_there which pass at in
        let one = one_done which client.0 pass client.1 at in
        let same : which + 1 ≡ 0 + which + 1 = omega arith in
        (one.work.gains.stands ∙ ap (λ (n : ℕ). n ∷ []) same, one.work.gains.split));
  }

  all_worked : ToldWorksAreDone → AreWorked meanings (all_commands clients) (passes_of dones)
  all_worked law = record {
    count = passes_many ∙ sym (mapped_length (λ (x : Client). x.commands) clients);
    each = λ which pass at.
        let client = pass_there which pass at in
        let one = one_done which client.0 pass client.1 at in
        subst (λ (commands : List Command). HasWorkedAlone meanings which commands pass) (sym (commands_at clients which client.0 client.1))
        (record { start = numbered_pass lock which; fresh = refl; worked = law mission (client_numbered which client.0) client.0.commands (numbered_pass lock which) pass one.text one.work });
  }

  all_told : PassesHaveTheirEntries → ToldWorksAreDone → (journal : Entries) → StandIn (all_mine (passes_of dones)) journal → HaveAllOf (all_mine (passes_of dones)) journal →
      AreToldSomehow mission journal 0 clients texts
  all_told entries law journal right all which client text place at =
      let x = there dones which (let below = slice_get_within clients which client place in let many = done.many in let works_many = of.many in omega (arith, below, many, works_many)) in
      let pass_at = get_mapped (λ (d : Done). d.pass) dones which x.0 x.1 in
      let one = one_done which client x.0.pass place pass_at in
      let same : one.text ≡ text = same_some one.text text (sym one.written ∙ at) in
      let mine : one.work.gained ≡ x.0.pass.mine = sym one.work.gains.mine in
      let own : own_entries one.work.gained ≡ filter (is_of_client which) journal =
      ap own_entries mine ∙ entries meanings (all_commands clients) (passes_of dones) journal (all_worked law) right all which x.0.pass pass_at in (
        one.work.total,
        subst (λ (n : ℕ). IsWorkTold mission (client_numbered n client) 0 client.commands (filter (is_of_client n) journal) text one.work.total) (omega arith)
            (subst (λ (t : List ℕ). IsWorkTold mission (client_numbered which client) 0 client.commands (filter (is_of_client which) journal) t one.work.total) same
            (subst (λ (l : Entries). IsWorkTold mission (client_numbered which client) 0 client.commands l one.text one.work.total) own one.work.told)),
      )

  pub whole : JoinedPassesAreWhole → IsWhole (joined_with_all first (passes_of dones))
  whole law = law first (passes_of dones) of_one_lock

  pub performed : JoinedPassesFit → JoinedPassesHaveAll → ToldWorksAreDone → PassesHaveTheirEntries → (pass : PassView) → pass ≡ joined_with_all first (passes_of dones) → (journal : Entries) (text : List ℕ) →
      StandIn pass.mine journal → HaveAllOf pass.mine journal → IsReplay (opening_of judged.session) journal →
      text ≡ line_of (journal_data journal) ++ joined_texts texts → IsPerformed judged bound form text
  performed fit have law entries pass is journal text right all replayed whole_text =
      let mine : pass.mine ≡ all_mine (passes_of dones) = ap (λ (p : PassView). p.mine) is ∙ have first (passes_of dones) in
      let right_all = subst (λ (l : Places). StandIn l journal) mine right in
      let all_all = subst (λ (l : Places). HaveAllOf l journal) mine all in
      let fits = fit meanings (opening_of judged.session) (all_commands clients) (passes_of dones) journal (all_worked law) replayed right_all all_all in
      let texts_many : length texts ≡ length clients = told.many ∙ done.many ∙ of.many in
      let totalled = with_totals mission journal 0 clients texts texts_many (all_told entries law journal right_all all_all) in
      let tell = joined mission journal 0 clients texts totalled.totals texts_many totalled.many totalled.told in
      record {
        journal = journal;
        fits = fits;
        counts = tell.counts;
        paid = tell.paid;
        told = whole_text ∙ ap (λ (l : List ℕ). line_of (journal_data journal) ++ l) tell.told;
      }
