use Rattle.resimulate.proofs.alike.traces_agree.Goals as goal

pub returns : goal.returns
returns c = λ yes. record {
  parted = c.is_parted-parted.result;
  whole = c.is_parted-parted.ensures;
  unbegun = c.in_ok-begun.ensures c.if-not-begun.false;
  old_unbegun = c.in_ok-old_begun.ensures yes;
  above_open = record {
    roots = c.in_ok-roots.roots.keys;
    noted = c.in_ok-roots.ensures.here;
    old_noted = c.in_ok-roots.ensures.there;
    none_open = c.in_ok-none.ensures c.if-not-none.false;
  };
}
