use Rattle.std.proofs.Common.{◌≡◌, [], ◌∷◌, ◌++◌, refl, sym, ap, ◌∙◌}
use Rattle.std.proofs.lemmas.List.{append-nil}
use Rattle.std.specs.HashMap as hash
use Rattle.aerie_base.specs.models.Names.{same_name}
use Rattle.seq_expand.specs.Closeness.{is_too_close}
use Rattle.seq_expand.specs.Spaced.{is_soon_for}
use Rattle.seq_expand.proofs.Positions.{position_if, command_noted}
use Rattle.seq_expand.proofs.SpacedNames.{command_sent, too_close_is}
use Rattle.seq_expand.proofs.closeness.close_positions.Goals as goal
use Rattle.seq_expand.proofs.closeness.close_positions.Goals.{then-is_close+in_ok-push, else-is_close}

pub loop-at-init : goal.loop-at-init
loop-at-init c = record { before = []; known = c.in_ok-spaced.ensures; positions = rw c.new-positions.ensures refl }

pub loop-at-preserved : goal.loop-at-preserved
loop-at-preserved c =
    let before = c.loop-at.invariant.before in
    let sent = c.index-commands-at.result in
    let told : c.send-is_close.result ≡ is_too_close c.args.spacings.now before sent =
    c.send-is_close.ensures.close ∙ ap (λ o. is_soon_for o sent.at) (c.loop-at.invariant.known sent.name) ∙ sym (too_close_is before sent c.args.spacings.now) in
    record {
      before = sent ∷ before;
      known = command_sent c.args.spacings.now before sent (hash.get same_name c.loop-at.spaced) _ c.loop-at.invariant.known c.send-is_close.ensures.last;
      positions = command_noted c.args.spacings.now c.loop-at.at before c.args.commands.now sent c.loop-at.positions c.if-is_close.positions _ c.loop-at-test.true c.index-commands-at.is
          (elim c.if-is_close.branch [
            | then-is_close+in_ok-push w ↦
                w.positions-is ∙ (w.in_ok-push.ensures.pushed ∙ ap (λ b. c.loop-at.positions ++ position_if b c.loop-at.at) (sym w.if-is_close.true ∙ told))
            | else-is_close w ↦
                w.positions-is ∙ (sym (append-nil c.loop-at.positions) ∙ ap (λ b. c.loop-at.positions ++ position_if b c.loop-at.at) (sym w.if-is_close.false ∙ told))
          ])
          c.loop-at.invariant.positions;
    }
