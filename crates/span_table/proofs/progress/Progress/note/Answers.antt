use Rattle.std.proofs.Common.{◌≡◌, ◌∙◌, Bool, true, false, not, is_some, refl, sym, ap, subst, List, ℕ, Option, Some}
use Rattle.run_data.specs.declared.frames.Status.{Status}
use Rattle.span_table.specs.declared.body_states.BodyState.{BodyState}
use Rattle.span_table.specs.BodyStates.{body_after, noted_state}
use Rattle.span_table.specs.KnownTasks.{IsPathAt, Links, Numbers, links_of}
use Rattle.span_table.specs.Progress.{AreNumbersOf}
use Rattle.span_table.proofs.AreOfTasks.{stay}
use Rattle.span_table.proofs.Frames.{are_timed, begun_is, knows_more, knows_same}
use Rattle.span_table.proofs.Gathering.{begun_more}
use Rattle.span_table.proofs.Stops.{knows_still, last_still}
use Rattle.span_table.proofs.progress.Progress.note.Goals as goal

-- it is new where nothing is known of it
told : (known_task came is_new : Bool) → known_task ≡ not is_new → known_task ≡ came → is_new ≡ not came
told known_task came true e f = (let k : came ≡ false = sym f ∙ e in sym (ap not k))
told known_task came false e f = (let k : came ≡ true = sym f ∙ e in sym (ap not k))

pub returns-then-not-stays : goal.returns-then-not-stays
returns-then-not-stays c = λ frames knows.
    let path = c.args.frame.now.path in
    let numbered = subst (λ (p : List ℕ). Numbers p c.in_ok-number.number c.args.self.now.tasks.entries c.number_of.new.tasks.entries) c.shared_path.ensures (c.in_ok-number.ensures knows.tasks.linked) in
    let before : c.body_at-before.result ≡ body_after frames path =
    c.body_at-before.ensures path numbered.there ∙ (numbered.same.bodies path ∙ knows.tasks.bodies path) in
    let stops = c.ended_at-stop.ensures frames (knows_still frames path c.in_ok-number.number _ _ knows.tasks numbered) (last_still frames path c.in_ok-number.number _ _ numbered c.args.self.now.last knows.last) in
    let timed = are_timed frames (c.args.time, c.args.frame.now) c.in_ok-number.number _ _ _ knows.tasks numbered (λ linked. c.put_ending.ensures linked stops) in
    let links = c.put_body.ensures path timed.at in
    let ends = c.put_ending.ensures numbered.linked stops path numbered.there in
    record {
      begun = begun_more c.args.model.now frames (c.args.time, c.args.frame.now) _ _ c.is_none-is_new.result knows.begun
          (told _ _ _ c.is_none-is_new.ensures (ap is_some before ∙ begun_is frames path)) c.in_ok-note.ensures.spans;
      numbers =
          subst (λ (l : Links). AreNumbersOf l c.note.new.self.spans.items c.note.new.self.numbers.items) (sym (links.0 ∙ ends.0))
          (c.in_ok-note.ensures.numbers (links_of c.number_of.new.tasks.entries) numbered.there (stay _ _ numbered.kept _ _ knows.numbers));
      tasks =
          knows_more frames (c.args.time, c.args.frame.now) c.in_ok-number.number _ _ c.state_with.result timed
          (c.state_with.ensures
          ∙ (ap (noted_state c.body_at-before.result) c.status-then-not-stays.ensures ∙ ap (λ (b : Option BodyState). noted_state b c.args.frame.now.status) before)) c.put_body.ensures;
      last = record { before = frames; frame = c.args.frame.now; are = refl; at = subst (λ (l : Links). IsPathAt l c.in_ok-number.number path) (sym links.0) timed.at };
    }

pub returns-else-not-stays : goal.returns-else-not-stays
returns-else-not-stays c = λ frames knows.
    let path = c.args.frame.now.path in
    let numbered = subst (λ (p : List ℕ). Numbers p c.in_ok-number.number c.args.self.now.tasks.entries c.number_of.new.tasks.entries) c.shared_path.ensures (c.in_ok-number.ensures knows.tasks.linked) in
    let before : c.body_at-before.result ≡ body_after frames path =
    c.body_at-before.ensures path numbered.there ∙ (numbered.same.bodies path ∙ knows.tasks.bodies path) in
    let stops = c.ended_at-stop.ensures frames (knows_still frames path c.in_ok-number.number _ _ knows.tasks numbered) (last_still frames path c.in_ok-number.number _ _ numbered c.args.self.now.last knows.last) in
    let timed = are_timed frames (c.args.time, c.args.frame.now) c.in_ok-number.number _ _ _ knows.tasks numbered (λ linked. c.put_ending.ensures linked stops) in
    let ends = c.put_ending.ensures numbered.linked stops path numbered.there in
    record {
      begun = begun_more c.args.model.now frames (c.args.time, c.args.frame.now) _ _ c.is_none-is_new.result knows.begun
          (told _ _ _ c.is_none-is_new.ensures (ap is_some before ∙ begun_is frames path)) c.in_ok-note.ensures.spans;
      numbers =
          subst (λ (l : Links). AreNumbersOf l c.note.new.self.spans.items c.note.new.self.numbers.items) (sym ends.0)
          (c.in_ok-note.ensures.numbers (links_of c.number_of.new.tasks.entries) numbered.there (stay _ _ numbered.kept _ _ knows.numbers));
      tasks =
          knows_same frames (c.args.time, c.args.frame.now) c.in_ok-number.number _ timed
          (subst (λ (b : Option BodyState). b ≡ Some (noted_state b c.args.frame.now.status)) before
          (subst (λ (s : Status). c.body_at-before.result ≡ Some (noted_state c.body_at-before.result s)) c.status.ensures (c.stays.ensures c.if-not-stays.false)));
      last = record { before = frames; frame = c.args.frame.now; are = refl; at = timed.at };
    }
