-- A batch of the live part of a reached state.
use Rattle.std.proofs.Common.{sym}
use Rattle.run_data.specs.Endings.{after_batch}
use Rattle.run_data.specs.laws.OpenTasks.{order_batch}
use Rattle.run_data.specs.laws.BatchFrames.{BatchFrames}
use Rattle.run_data.specs.laws.QuietStates.{ReachedIsQuiet}
use Rattle.run_data.specs.laws.ReachedStates.{ReachedIsOfModel}
use Rattle.run_data.specs.laws.LiveParts.{live}
use Rattle.run_data.specs.laws.LiveAfterBatches.{batch_same}
use Rattle.run_data.specs.laws.LivePartLaws.{live_of}
use Rattle.run_data.specs.laws.LiveTables.{live_order, live_same, part_quiet, live_frames}
use Rattle.live_tasks.specs.Reached.{LivePartGoesOn}

pub lives_on : ReachedIsOfModel → BatchFrames → ReachedIsQuiet → LivePartGoesOn
lives_on reached_is_of_model batch_frames reached_is_quiet model plan bound at cells touched frames valid is reached e =
    let order = (reached_is_of_model model plan bound at valid is reached).table.order in
    let second = live_order at.table order in
    let are = batch_frames model plan bound at cells touched frames valid is reached e in
    let quiet = reached_is_quiet model plan bound at is reached in (
      live_frames at.table order frames are,
      sym (live_of (after_batch at.time frames at.table) (after_batch at.time frames (live at.table)) (order_batch at.time frames at.table order) (order_batch at.time frames (live at.table) second)
          (batch_same at.time frames at.table (live at.table) order second (live_same at.table order) quiet (part_quiet at.table order at.table quiet) are (live_frames at.table order frames are))),
    )
