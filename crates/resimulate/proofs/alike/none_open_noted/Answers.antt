use Rattle.resimulate.proofs.alike.none_open_noted.Goals as goal

pub returns : goal.returns
returns c = λ yes. record {
  here = c.is_open_among.ensures c.if-is_open_among.false;
  there = c.is_open_among-2.ensures c.if-is_open_among-2.false;
  before = record { before = c.in_ok-before.before.entries; takes_in = c.in_ok-before.ensures; go_on = c.all_go_on.ensures yes };
}
