use Rattle.std.proofs.Common.{◌∙◌, List, refl, subst}
use Rattle.run_data.specs.Tasks.{children_in}
use Rattle.run_data.specs.declared.frames.Item.{Item}
use Rattle.resimulate.specs.Traces.{CountsToo}
use Rattle.resimulate.proofs.TaskTraces.{noted}
use Rattle.resimulate.proofs.traces.put.Goals as goal

pub returns : goal.returns
returns c =
    noted c.args.traces.now.entries c.insert.new.self.entries c.args.time c.args.frame.now c.in_ok-path.path _ c.made_by.result (c.in_ok-path.ensures ∙ c.shared_path.ensures) refl
    (c.in_ok-step.ensures ∙ c.step.ensures) c.made_by.ensures
    (subst (λ (items : List Item). CountsToo (children_in items) c.made_by.result c.with_children-made.result) c.items.ensures c.with_children-made.ensures) c.in_ok-insert.ensures.updates.0
