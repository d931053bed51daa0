use Rattle.run_data.proofs.Accepting.{made_fits_cells, ready_order}
use Rattle.run_data.proofs.Orders.{order_does_not_matter}
use Rattle.run_data.proofs.laws.batches.order_does_not_matter.Goals as goal

pub returns : goal.returns
returns c = record { any = order_does_not_matter; fits = made_fits_cells; ready = ready_order }
