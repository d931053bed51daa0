use Rattle.std.proofs.Common.{ap, sym, subst, take, ◌∙◌}
use Rattle.record_book.specs.StoredSteps.{book_limit}
use Rattle.bench.specs.Benches.{BenchOf}
use Rattle.bench.specs.HeldSteps.{HoldsAll}
use Rattle.bench.proofs.Extending.{firsts_hold}
use Rattle.bench.proofs.Paying.{holds_within}
use Rattle.bench.proofs.bench.Bench.give_back.Goals as goal

pub hold-requires : goal.hold-requires
hold-requires c = c.requires ∙ sym (ap (λ (bench : BenchOf). bench.model) c.self.view_is) ∙ sym c.self.invariant.1

pub invariant_of-self : goal.invariant_of-self
invariant_of-self c = (c.self.invariant.0, c.hold.ensures.model ∙ c.self.invariant.1)

pub returns-in_err-hold-clause-same_bench : goal.returns-in_err-hold-clause-same_bench
returns-in_err-hold-clause-same_bench c = record {
  model = ap (λ (bench : BenchOf). bench.model) c.self.view_is;
  bound = ap (λ (bench : BenchOf). bench.bound) c.self.view_is;
}

pub returns-in_err-hold-clause-held : goal.returns-in_err-hold-clause-held
returns-in_err-hold-clause-held c =
    subst (λ (bench : BenchOf). HoldsAll bench.records (take book_limit c.hold.new.self.records)) c.self.view_is
    (firsts_hold book_limit c.self.inside.stock.records c.hold.new.self.records c.hold.ensures.extends)

pub invariant_of-self-2 : goal.invariant_of-self-2
invariant_of-self-2 c = (c.self.invariant.0, c.in_ok-hold.ensures.model ∙ c.self.invariant.1)

pub returns-clause-same_bench : goal.returns-clause-same_bench
returns-clause-same_bench c = record {
  model = ap (λ (bench : BenchOf). bench.model) c.self.view_is;
  bound = ap (λ (bench : BenchOf). bench.bound) c.self.view_is;
}

pub returns-clause-held : goal.returns-clause-held
returns-clause-held c =
    subst (λ (bench : BenchOf). HoldsAll bench.records (take book_limit c.hold.new.self.records)) c.self.view_is
    (firsts_hold book_limit c.self.inside.stock.records c.hold.new.self.records c.in_ok-hold.ensures.extends)

pub returns-clause-holds_run : goal.returns-clause-holds_run
returns-clause-holds_run c = holds_within c.hold.new.self.records c.args.kept.run c.in_ok-hold.ensures.known.held
