-- The parts in front are ASCII; they are the token where they are a duration, and else the number is.
use Rattle.std.proofs.Common.{◌≡◌, ℕ, true, false, take, Some, ap, sym, ◌∙◌}
use Rattle.aerie_base.specs.Durations.{duration_len}
use Rattle.aerie_text.specs.Numerals.{is_duration}
use Rattle.aerie_text.specs.declared.token.TokenKind.TheVariants.{Duration}
use Rattle.aerie_text.proofs.Units.{duration_ascii, duration_read, number_read}
use Rattle.aerie_text.proofs.numerals.digits_at.Goals as goal

pub is_duration-requires : goal.is_duration-requires
is_duration-requires c =
    rw (c.duration_len-len.ensures.len) (duration_ascii c.args.bytes.now)

pub returns-then-is_duration : goal.returns-then-is_duration
returns-then-is_duration c =
    let bytes = c.args.bytes.now in
    let len = c.duration_len-len.ensures.len in
    let is : is_duration (take (duration_len bytes) bytes) ≡ true = ap (λ (n : ℕ). is_duration (take n bytes)) (sym len) ∙ sym c.is_duration.ensures ∙ c.if-is_duration.true in
    ap (λ (n : ℕ). Some (Duration, n)) len ∙ sym (duration_read bytes is)

pub returns : goal.returns
returns c =
    let bytes = c.args.bytes.now in
    let len = c.duration_len-len.ensures.len in
    let none : is_duration (take (duration_len bytes) bytes) ≡ false = ap (λ (n : ℕ). is_duration (take n bytes)) (sym len) ∙ sym c.is_duration.ensures ∙ c.if-is_duration.false in
    c.number_at.ensures ∙ sym (number_read bytes none)
