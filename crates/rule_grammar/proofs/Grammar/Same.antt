-- Forms with the same expansions: what follows for forms that they are parts of, and forms that are regrouped.
use Rattle.std.proofs.Common.{List, ◌++◌, append_assoc, subst, sym}
use Rattle.readers.specs.grammar.Alternatives.{SameExpansions}
use Rattle.readers.specs.grammar.Expansions.{Symbol, IsExpansion, of_nothing, of_both, of_first, of_second, of_no_iteration, of_iteration}
use Rattle.readers.specs.grammar.Forms.{Form, nothing, both, either, many, option}

module _ {Rule Sort : Type 0} where
  pub same_itself : (a : Form Rule Sort) → SameExpansions a a
  same_itself a = record { onward = λ us h. h; back = λ us h. h }

  pub same_swapped : {a b : Form Rule Sort} → SameExpansions a b → SameExpansions b a
  same_swapped h = record { onward = h.back; back = h.onward }

  pub same_chained : {a b c : Form Rule Sort} → SameExpansions a b → SameExpansions b c → SameExpansions a c
  same_chained h i = record { onward = λ us e. i.onward us (h.onward us e); back = λ us e. h.back us (i.back us e) }

  both_onward : (a b c d : Form Rule Sort) → SameExpansions a c → SameExpansions b d → (us : List (Symbol Rule Sort)) → IsExpansion (both a b) us → IsExpansion (both c d) us
  both_onward a b c d h i _ (of_both {us = us} {vs = vs} e f) = of_both (h.onward us e) (i.onward vs f)

  pub same_both : {a b c d : Form Rule Sort} → SameExpansions a c → SameExpansions b d → SameExpansions (both a b) (both c d)
  same_both {a = a} {b = b} {c = c} {d = d} h i = record { onward = both_onward a b c d h i; back = both_onward c d a b (same_swapped h) (same_swapped i) }

  either_onward : (a b c d : Form Rule Sort) → SameExpansions a c → SameExpansions b d → (us : List (Symbol Rule Sort)) → IsExpansion (either a b) us → IsExpansion (either c d) us
  either_onward a b c d h i us (of_first e) = of_first (h.onward us e)
  either_onward a b c d h i us (of_second e) = of_second (i.onward us e)

  pub same_either : {a b c d : Form Rule Sort} → SameExpansions a c → SameExpansions b d → SameExpansions (either a b) (either c d)
  same_either {a = a} {b = b} {c = c} {d = d} h i = record { onward = either_onward a b c d h i; back = either_onward c d a b (same_swapped h) (same_swapped i) }

  -- the first parts of a choice as they are
  pub same_second : (a : Form Rule Sort) {b c : Form Rule Sort} → SameExpansions b c → SameExpansions (either a b) (either a c)
  same_second a h = same_either (same_itself a) h

  -- the first part of a sequence as it is
  pub same_behind : (a : Form Rule Sort) {b c : Form Rule Sort} → SameExpansions b c → SameExpansions (both a b) (both a c)
  same_behind a h = same_both (same_itself a) h

  -- ---- sequences in another grouping

  module _ (a b c : Form Rule Sort) where
    inner_to_right : (us ws : List (Symbol Rule Sort)) → IsExpansion (both a b) us → IsExpansion c ws → IsExpansion (both a (both b c)) (us ++ ws)
    inner_to_right _ ws (of_both {us = us} {vs = vs} e f) g = subst (IsExpansion (both a (both b c))) (sym (append_assoc us vs ws)) (of_both e (of_both f g))

    to_right : (us : List (Symbol Rule Sort)) → IsExpansion (both (both a b) c) us → IsExpansion (both a (both b c)) us
    to_right _ (of_both {us = us} {vs = ws} e f) = inner_to_right us ws e f

    inner_to_left : (us ws : List (Symbol Rule Sort)) → IsExpansion a us → IsExpansion (both b c) ws → IsExpansion (both (both a b) c) (us ++ ws)
    inner_to_left us _ e (of_both {us = vs} {vs = ws} f g) = subst (IsExpansion (both (both a b) c)) (append_assoc us vs ws) (of_both (of_both e f) g)

    to_left : (us : List (Symbol Rule Sort)) → IsExpansion (both a (both b c)) us → IsExpansion (both (both a b) c) us
    to_left _ (of_both {us = us} {vs = ws} e f) = inner_to_left us ws e f

    pub in_sequence : SameExpansions (both (both a b) c) (both a (both b c))
    in_sequence = record { onward = to_right; back = to_left }

  -- ---- choices in another grouping

  module _ (a b c : Form Rule Sort) where
    choice_to_right : (us : List (Symbol Rule Sort)) → IsExpansion (either (either a b) c) us → IsExpansion (either a (either b c)) us
    choice_to_right us (of_first (of_first e)) = of_first e
    choice_to_right us (of_first (of_second e)) = of_second (of_first e)
    choice_to_right us (of_second e) = of_second (of_second e)

    choice_to_left : (us : List (Symbol Rule Sort)) → IsExpansion (either a (either b c)) us → IsExpansion (either (either a b) c) us
    choice_to_left us (of_first e) = of_first (of_first e)
    choice_to_left us (of_second (of_first e)) = of_first (of_second e)
    choice_to_left us (of_second (of_second e)) = of_second e

    pub in_choice : SameExpansions (either (either a b) c) (either a (either b c))
    in_choice = record { onward = choice_to_right; back = choice_to_left }

    -- a choice before a form
    behind_choice : (us ws : List (Symbol Rule Sort)) → IsExpansion (either a b) us → IsExpansion c ws → IsExpansion (either (both a c) (both b c)) (us ++ ws)
    behind_choice us ws (of_first e) f = of_first (of_both e f)
    behind_choice us ws (of_second e) f = of_second (of_both e f)

    spread : (us : List (Symbol Rule Sort)) → IsExpansion (both (either a b) c) us → IsExpansion (either (both a c) (both b c)) us
    spread _ (of_both {us = us} {vs = ws} e f) = behind_choice us ws e f

    gathered : (us : List (Symbol Rule Sort)) → IsExpansion (either (both a c) (both b c)) us → IsExpansion (both (either a b) c) us
    gathered _ (of_first (of_both e f)) = of_both (of_first e) f
    gathered _ (of_second (of_both e f)) = of_both (of_second e) f

    pub choice_before : SameExpansions (both (either a b) c) (either (both a c) (both b c))
    choice_before = record { onward = spread; back = gathered }

    -- a choice behind a form
    before_choice : (us ws : List (Symbol Rule Sort)) → IsExpansion a us → IsExpansion (either b c) ws → IsExpansion (either (both a b) (both a c)) (us ++ ws)
    before_choice us ws e (of_first f) = of_first (of_both e f)
    before_choice us ws e (of_second f) = of_second (of_both e f)

    spread_behind : (us : List (Symbol Rule Sort)) → IsExpansion (both a (either b c)) us → IsExpansion (either (both a b) (both a c)) us
    spread_behind _ (of_both {us = us} {vs = ws} e f) = before_choice us ws e f

    gathered_behind : (us : List (Symbol Rule Sort)) → IsExpansion (either (both a b) (both a c)) us → IsExpansion (both a (either b c)) us
    gathered_behind _ (of_first (of_both e f)) = of_both e (of_first f)
    gathered_behind _ (of_second (of_both e f)) = of_both e (of_second f)

    pub choice_behind : SameExpansions (both a (either b c)) (either (both a b) (both a c))
    choice_behind = record { onward = spread_behind; back = gathered_behind }

  -- ---- options and iterations

  nothing_before : (b : Form Rule Sort) (us ws : List (Symbol Rule Sort)) → IsExpansion nothing us → IsExpansion b ws → IsExpansion b (us ++ ws)
  nothing_before b _ ws of_nothing f = f

  without_nothing : (b : Form Rule Sort) (us : List (Symbol Rule Sort)) → IsExpansion (both nothing b) us → IsExpansion b us
  without_nothing b _ (of_both {us = us} {vs = ws} e f) = nothing_before b us ws e f

  pub nothing_in_front : (b : Form Rule Sort) → SameExpansions (both nothing b) b
  nothing_in_front b = record { onward = without_nothing b; back = λ us e. of_both of_nothing e }

  iterations_to_option : (a : Form Rule Sort) (us : List (Symbol Rule Sort)) → IsExpansion (many a) us → IsExpansion (option (both a (many a))) us
  iterations_to_option a _ of_no_iteration = of_second of_nothing
  iterations_to_option a _ (of_iteration e f) = of_first (of_both e f)

  iteration_and_more : (a : Form Rule Sort) (us : List (Symbol Rule Sort)) → IsExpansion (both a (many a)) us → IsExpansion (many a) us
  iteration_and_more a _ (of_both e f) = of_iteration e f

  no_more : (a : Form Rule Sort) (us : List (Symbol Rule Sort)) → IsExpansion nothing us → IsExpansion (many a) us
  no_more a _ of_nothing = of_no_iteration

  option_to_iterations : (a : Form Rule Sort) (us : List (Symbol Rule Sort)) → IsExpansion (option (both a (many a))) us → IsExpansion (many a) us
  option_to_iterations a us (of_first e) = iteration_and_more a us e
  option_to_iterations a us (of_second e) = no_more a us e

  -- no iteration, or a first one and more
  pub iterations : (a : Form Rule Sort) → SameExpansions (many a) (option (both a (many a)))
  iterations a = record { onward = iterations_to_option a; back = option_to_iterations a }
