use Rattle.std.proofs.Common.{◌≡◌, ◌∙◌, List, ◌++◌, length, ap, subst}
use Rattle.std.proofs.lemmas.List.{take-append-drop}
use Rattle.run_data.specs.declared.runs.Instant.{Instant}
use Rattle.resimulate.specs.AlikeByFrames.{FramesAgree}
use Rattle.resimulate.specs.LastChanges.{SameLastChanges}
use Rattle.resimulate.proofs.CellChanges.{same_behind_first}
use Rattle.resimulate.proofs.alike.tell_alike.Goals as goal

pub returns : goal.returns
returns c =
    let first = c.split_at-parts.result.0.now in
    let later = c.split_at-parts.result.1.now in
    let old_later = c.split_at-old_parts.result.1.now in
    let mine : first ++ later ≡ c.args.instants.now =
    (λ i. c.split_at-parts.ensures.front i ++ c.split_at-parts.ensures.back i) ∙ take-append-drop c.args.shared c.args.instants.now in
    let theirs : first ++ old_later ≡ c.args.others.now =
    (λ i. (c.split_at-parts.ensures.front ∙ c.requires.first.same) i ++ c.split_at-old_parts.ensures.back i) ∙ take-append-drop c.args.shared c.args.others.now in
    λ yes. (
      subst (λ (l : List Instant). FramesAgree c.args.plan.now c.args.old_plan.now l c.args.others.now) mine
          (subst (λ (l : List Instant). FramesAgree c.args.plan.now c.args.old_plan.now (first ++ later) l) theirs (c.in_ok-agree.ensures yes)),
      subst (λ n. SameLastChanges n c.args.instants.now c.args.others.now) (ap length c.cells.ensures.value)
          (subst (λ (l : List Instant). SameLastChanges (length c.cells.result.now) l c.args.others.now) mine
          (subst (λ (l : List Instant). SameLastChanges (length c.cells.result.now) (first ++ later) l) theirs
          (same_behind_first (length c.cells.result.now) first later old_later (c.in_ok-same.ensures c.if-not-same.false)))),
    )
