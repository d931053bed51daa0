-- The instant is one that may be shown, and its text that of the microseconds since 1900.
use Rattle.std.proofs.Common.{◌≡◌, ◌++◌, ℕ, ℤ, pos, ◌+ℤ◌, ◌*ℤ◌, arith, ap}
use Rattle.std.specs.Prelude.{List, string_bytes}
use Rattle.std.proofs.lemmas.Result.{IfOk-equal}
use Rattle.jiff.specs.Words.{civil_nanos}
use Rattle.jiff.proofs.SpanFacts.{signed_arith}
use Rattle.epoch_text.specs.Ranges.{IsShown}
use Rattle.epoch_text.proofs.Texts.{text_is_shown, year_is_shown}
use Rattle.epoch_text.proofs.writing.push_day_text.Goals as goal

pub push_shown-requires : goal.push_shown-requires
push_shown-requires c =
    let instant : ℤ = c.args.start.now +ℤ pos c.args.time in
    let shown : IsShown instant = (omega (arith, signed_arith, c.micros.ensures.value, c.micros.ensures.range.0), omega (arith, signed_arith, c.micros.ensures.value, c.micros.ensures.range.1, c.get.ensures.range)) in
    let at : civil_nanos c.shown_at.result ≡ instant *ℤ pos 1_000 = omega (arith, signed_arith, c.shown_at.ensures, c.micros.ensures.value, c.get.ensures.value, shown.0, shown.1) in
    year_is_shown c.shown_at.result instant shown at

pub returns : goal.returns
returns c =
    let instant : ℤ = c.args.start.now +ℤ pos c.args.time in
    let shown : IsShown instant = (omega (arith, signed_arith, c.micros.ensures.value, c.micros.ensures.range.0), omega (arith, signed_arith, c.micros.ensures.value, c.micros.ensures.range.1, c.get.ensures.range)) in
    let at : civil_nanos c.shown_at.result ≡ instant *ℤ pos 1_000 = omega (arith, signed_arith, c.shown_at.ensures, c.micros.ensures.value, c.get.ensures.value, shown.0, shown.1) in
    IfOk-equal _ _ _ _ c.push_shown.ensures (ap (λ (shown : List ℕ). string_bytes c.args.text.now ++ shown) (text_is_shown c.shown_at.result instant shown at))
