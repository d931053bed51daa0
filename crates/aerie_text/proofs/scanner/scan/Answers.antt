-- Each turn of the loop reads white space, a comment, or a token.
use Rattle.std.proofs.Common.{◌≡◌, ◌≤◌, ◌∙◌, length, drop, ap, sym, arith}
use Rattle.std.proofs.lemmas.List.{length-drop}
use Rattle.aerie_text.specs.Tokens.{tokens_of}
use Rattle.aerie_text.specs.Gaps.{gap_len}
use Rattle.aerie_text.proofs.Scanning.{at_start, at_end, gap_read, token_read, bad_read, err_case}
use Rattle.aerie_text.proofs.scanner.scan.Goals as goal

pub loop-at-init : goal.loop-at-init
loop-at-init c = record { within = omega arith; read = rw (c.new-tokens.ensures) (at_start c.as_bytes-bytes.result.now) }

pub loop-at-preserved-then-gap-gt0 : goal.loop-at-preserved-then-gap-gt0
loop-at-preserved-then-gap-gt0 c =
    let rest = c.rest_at.ensures in
    let len : c.gap_len-gap.result ≡ gap_len (drop c.loop-at.at c.as_bytes-bytes.result.now) = c.gap_len-gap.ensures.len ∙ ap gap_len rest in
    let within : c.gap_len-gap.result ≤ length (drop c.loop-at.at c.as_bytes-bytes.result.now) = omega (arith, c.gap_len-gap.ensures.within, ap length rest) in
    record {
      within = omega (arith, within, length-drop c.loop-at.at c.as_bytes-bytes.result.now);
      read = gap_read c.loop-at.tokens c.as_bytes-bytes.result.now c.loop-at.at c.gap_len-gap.result _ c.loop-at-test.true len c.if-gap-gt0.true within c.loop-at.invariant.read;
    }

pub returns-in_err-token : goal.returns-in_err-token
returns-in_err-token c =
    record {
      exact = err_case _ _ _ _ c.from_residual.ensures.0 c.from_residual.ensures.1 (λ e same at named.
          ap tokens_of (sym c.as_bytes-bytes.ensures.value)
          ∙ bad_read c.loop-at.tokens c.as_bytes-bytes.result.now c.loop-at.at c.in_err-token.field-0.0 _ c.loop-at-test.true
          (ap gap_len (sym c.rest_at.ensures) ∙ sym c.gap_len-gap.ensures.len ∙ omega arith) c.in_err-token.ensures.found c.loop-at.invariant.read at (sym same ∙ named));
    }

pub loop-at-preserved : goal.loop-at-preserved
loop-at-preserved c =
    let none : gap_len (drop c.loop-at.at c.as_bytes-bytes.result.now) ≡ 0 = ap gap_len (sym c.rest_at.ensures) ∙ sym c.gap_len-gap.ensures.len ∙ omega arith in
    record {
      within = c.in_ok-token.ensures.within.1;
      read =
          rw (c.in_ok-push.ensures.pushed)
          (token_read c.loop-at.tokens c.as_bytes-bytes.result.now c.loop-at.at c.in_ok-token.token _ none c.in_ok-token.ensures.found c.loop-at.invariant.read);
    }

pub returns : goal.returns
returns c =
    record { exact = ap tokens_of (sym c.as_bytes-bytes.ensures.value) ∙ at_end c.loop-at.tokens c.as_bytes-bytes.result.now c.loop-at.at _ c.loop-at-test.false c.loop-at.invariant.read }
