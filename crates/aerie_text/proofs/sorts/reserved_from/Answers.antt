-- Each table has the reserved words that begin with its letter.
use Rattle.std.proofs.Common.{◌≡◌, false, nat_eq, refl, sym, arith, rules}
use Rattle.std.specs.List.{list_any}
use Rattle.std.proofs.lemmas.Bool.Decides.{nat_tests}
use Rattle.aerie_text.proofs.ReservedWords.{initials, none_begins}
use Rattle.aerie_text.proofs.sorts.reserved_from.Goals as goal

pub returns-in-97 : goal.returns-in-97
returns-in-97 c = rw c.in-97.is refl

pub returns-in-99 : goal.returns-in-99
returns-in-99 c = rw c.in-99.is refl

pub returns-in-100 : goal.returns-in-100
returns-in-100 c = rw c.in-100.is refl

pub returns-in-101 : goal.returns-in-101
returns-in-101 c = rw c.in-101.is refl

pub returns-in-102 : goal.returns-in-102
returns-in-102 c = rw c.in-102.is refl

pub returns-in-103 : goal.returns-in-103
returns-in-103 c = rw c.in-103.is refl

pub returns-in-105 : goal.returns-in-105
returns-in-105 c = rw c.in-105.is refl

pub returns-in-107 : goal.returns-in-107
returns-in-107 c = rw c.in-107.is refl

pub returns-in-108 : goal.returns-in-108
returns-in-108 c = rw c.in-108.is refl

pub returns-in-109 : goal.returns-in-109
returns-in-109 c = rw c.in-109.is refl

pub returns-in-110 : goal.returns-in-110
returns-in-110 c = rw c.in-110.is refl

pub returns-in-111 : goal.returns-in-111
returns-in-111 c = rw c.in-111.is refl

pub returns-in-112 : goal.returns-in-112
returns-in-112 c = rw c.in-112.is refl

pub returns-in-114 : goal.returns-in-114
returns-in-114 c = rw c.in-114.is refl

pub returns-in-115 : goal.returns-in-115
returns-in-115 c = rw c.in-115.is refl

pub returns-in-116 : goal.returns-in-116
returns-in-116 c = rw c.in-116.is refl

pub returns-in-117 : goal.returns-in-117
returns-in-117 c = rw c.in-117.is refl

pub returns-in-118 : goal.returns-in-118
returns-in-118 c = rw c.in-118.is refl

pub returns-in-119 : goal.returns-in-119
returns-in-119 c = rw c.in-119.is refl

pub slice_bounds-result-end-in_default : goal.slice_bounds-result-end-in_default
slice_bounds-result-end-in_default c = search rules

pub returns-in_default : goal.returns-in_default
returns-in_default c =
    let not_a : nat_eq c.args.letter 97 ≡ false = grind (arith, nat_tests) in
    let not_c : nat_eq c.args.letter 99 ≡ false = grind (arith, nat_tests) in
    let not_d : nat_eq c.args.letter 100 ≡ false = grind (arith, nat_tests) in
    let not_e : nat_eq c.args.letter 101 ≡ false = grind (arith, nat_tests) in
    let not_f : nat_eq c.args.letter 102 ≡ false = grind (arith, nat_tests) in
    let not_g : nat_eq c.args.letter 103 ≡ false = grind (arith, nat_tests) in
    let not_i : nat_eq c.args.letter 105 ≡ false = grind (arith, nat_tests) in
    let not_k : nat_eq c.args.letter 107 ≡ false = grind (arith, nat_tests) in
    let not_l : nat_eq c.args.letter 108 ≡ false = grind (arith, nat_tests) in
    let not_m : nat_eq c.args.letter 109 ≡ false = grind (arith, nat_tests) in
    let not_n : nat_eq c.args.letter 110 ≡ false = grind (arith, nat_tests) in
    let not_o : nat_eq c.args.letter 111 ≡ false = grind (arith, nat_tests) in
    let not_p : nat_eq c.args.letter 112 ≡ false = grind (arith, nat_tests) in
    let not_r : nat_eq c.args.letter 114 ≡ false = grind (arith, nat_tests) in
    let not_s : nat_eq c.args.letter 115 ≡ false = grind (arith, nat_tests) in
    let not_t : nat_eq c.args.letter 116 ≡ false = grind (arith, nat_tests) in
    let not_u : nat_eq c.args.letter 117 ≡ false = grind (arith, nat_tests) in
    let not_v : nat_eq c.args.letter 118 ≡ false = grind (arith, nat_tests) in
    let not_w : nat_eq c.args.letter 119 ≡ false = grind (arith, nat_tests) in
    let none : list_any (nat_eq c.args.letter) initials ≡ false = rw (not_a, not_c, not_d, not_e, not_f, not_g, not_i, not_k, not_l, not_m, not_n, not_o, not_p, not_r, not_s, not_t, not_u, not_v, not_w) refl in
    sym (none_begins c.args.letter none)
