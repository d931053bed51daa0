-- The bytes are those of a text.
use Rattle.std.proofs.Common.{sym, subst}
use Rattle.std.specs.Str.{IsUtf8}
use Rattle.epoch_text.proofs.Stamps.{stamp_text}
use Rattle.epoch_text.proofs.writing.push_stamp.Goals as goal

pub from_utf8_unchecked-requires : goal.from_utf8_unchecked-requires
from_utf8_unchecked-requires c =
    subst IsUtf8 (sym c.stamp_bytes-bytes.ensures)
    (stamp_text c.args.year c.args.year_day c.args.hour c.args.minute c.args.second c.args.micros c.requires.few)
