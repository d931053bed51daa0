use Rattle.std.proofs.Common.{◌≡◌, ◌≤◌, ◌+◌, ◌*◌, ◌^◌, unsigned_abs, drop}
use Rattle.wait_solver.specs.Lines.{sum_of_lines, terms_line, form_line}
use Rattle.wait_solver.proofs.forms.form_line.Given as goal

-- the sum so far and the terms that are left are the form, and each term adds no more than a term may
abbrev pub invariant-loop-term : goal.invariant-loop-term
invariant-loop-term l = record {
  whole : sum_of_lines l.sum (terms_line l.cells (drop l.term-index l.term-items)) ≡ form_line l.cells l.form;
  value : unsigned_abs l.sum.value ≤ 2 ^ 100 + 1_000_000_000_000_000_000_000_000 * l.term-index;
  rate : unsigned_abs l.sum.rate ≤ 1_000_000_000_000_000_000 * l.term-index;
}
