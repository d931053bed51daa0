-- Values one behind another.
use Rattle.std.proofs.Common.{◌≡◌, List, [], ◌∷◌, ◌++◌, append_assoc, Option, Some, None, refl, sym, ap}
use Rattle.aerie_base.specs.declared.values.Value.{Value}
use Rattle.seq_expand.specs.Sending.{value_before}

-- the values, where there are those behind them
abbrev pub in_front : List Value → Option (List Value) → Option (List Value)
in_front values None = None
in_front values (Some rest) = Some (values ++ rest)

pub none_in_front : (rest : Option (List Value)) → rest ≡ in_front [] rest
none_in_front None = refl
none_in_front (Some rest) = refl

pub one_more : (values : List Value) (value : Value) (rest : Option (List Value)) →
    in_front values (value_before (Some value) rest) ≡ in_front (values ++ value ∷ []) rest
one_more values value None = refl
one_more values value (Some rest) = ap Some (sym (append_assoc values (value ∷ []) rest))
