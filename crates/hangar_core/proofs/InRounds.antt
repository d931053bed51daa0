-- The commands of one client, in rounds, are its commands, counted.
use Rattle.std.proofs.Common.{◌≡◌, ℕ, zero, suc, ◌+◌, ◌<◌, ◌≤◌, Bool, true, false, List, [], ◌∷◌, ◌++◌, length, map, refl, sym, ap, ◌∙◌, subst, nat_eq, arith}
use Rattle.std.specs.List.{filter}
use Rattle.std.proofs.lemmas.List.Elements.{filter-append}
use Rattle.std.proofs.lemmas.Bool.{eq-eqb, ne_eqb}
use Rattle.commands.specs.declared.commands.Command.{Command}
use Rattle.hangar_core.specs.Fits.{commands_of}
use Rattle.hangar_core.specs.Serial.{NumberedCommand, heads, later_commands, longest, in_rounds}

abbrev pub is_of : ℕ → NumberedCommand → Bool
is_of i t = nat_eq t.client i

abbrev pub numbered : ℕ → ℕ → List Command → List NumberedCommand
numbered i n [] = []
numbered i n (c ∷ cs) = record { client = i; number = n; command = c } ∷ numbered i (n + 1) cs

abbrev one_of : ℕ → ℕ → List Command → List NumberedCommand
one_of i n [] = []
one_of i n (c ∷ cs) = record { client = i; number = n; command = c } ∷ []

heads_before : (n first i : ℕ) (css : List (List Command)) → i < first → filter (is_of i) (heads n first css) ≡ []
heads_before n first i [] h = refl
heads_before n first i ([] ∷ css) h = heads_before n (first + 1) i css (omega (arith, h))
heads_before n first i ((c ∷ cs) ∷ css) h =
    let e : nat_eq first i ≡ false = ne_eqb first i (λ k. omega (arith, h, k)) in
    rw e (heads_before n (first + 1) i css (omega (arith, h)))

heads_own : (n first i j : ℕ) (css : List (List Command)) → i ≡ first + j → filter (is_of i) (heads n first css) ≡ one_of i n (commands_of j css)
heads_own n first i j [] h = refl
heads_own n first i zero ([] ∷ css) h = heads_before n (first + 1) i css (omega (arith, h))
heads_own n first i zero ((c ∷ cs) ∷ css) h =
    let k : first ≡ i = omega (arith, h) in
    let e : nat_eq first i ≡ true = eq-eqb first i k in
    rw (e, heads_before n (first + 1) i css (omega (arith, h)), k) refl
heads_own n first i (suc j) ([] ∷ css) h = heads_own n (first + 1) i j css (omega (arith, h))
heads_own n first i (suc j) ((c ∷ cs) ∷ css) h =
    let e : nat_eq first i ≡ false = ne_eqb first i (λ k. omega (arith, h, k)) in
    rw e (heads_own n (first + 1) i j css (omega (arith, h)))

commands_tail : (j : ℕ) (css : List (List Command)) → commands_of j (map later_commands css) ≡ later_commands (commands_of j css)
commands_tail j [] = refl
commands_tail zero (cs ∷ css) = refl
commands_tail (suc j) (cs ∷ css) = commands_tail j css

joined : (i n : ℕ) (cs : List Command) → one_of i n cs ++ numbered i (n + 1) (later_commands cs) ≡ numbered i n cs
joined i n [] = refl
joined i n (c ∷ cs) = refl

shorter : (k : ℕ) (cs : List Command) → length cs ≤ suc k → length (later_commands cs) ≤ k
shorter k [] h = omega arith
shorter k (c ∷ cs) h = omega (arith, h)

none_left : (i n : ℕ) (cs : List Command) → length cs ≤ 0 → [] ≡ numbered i n cs
none_left i n [] h = refl
none_left i n (c ∷ cs) h = absurd (omega (arith, h))

pub in_rounds_own : (k n i : ℕ) (css : List (List Command)) → length (commands_of i css) ≤ k → filter (is_of i) (in_rounds k n css) ≡ numbered i n (commands_of i css)
in_rounds_own zero n i css h = none_left i n (commands_of i css) h
in_rounds_own (suc k) n i css h =
    let t : commands_of i (map later_commands css) ≡ later_commands (commands_of i css) = commands_tail i css in
    let a : filter (is_of i) (heads n 0 css) ≡ one_of i n (commands_of i css) = heads_own n 0 i i css (omega arith) in
    let b : filter (is_of i) (in_rounds k (n + 1) (map later_commands css)) ≡ numbered i (n + 1) (later_commands (commands_of i css)) =
    in_rounds_own k (n + 1) i (map later_commands css) (subst (λ (l : List Command). length l ≤ k) (sym t) (shorter k (commands_of i css) h)) ∙ ap (numbered i (n + 1)) t in
    filter-append (is_of i) (heads n 0 css) (in_rounds k (n + 1) (map later_commands css))
    ∙ ap (λ (l : List NumberedCommand). l ++ filter (is_of i) (in_rounds k (n + 1) (map later_commands css))) a
    ∙ ap (λ (l : List NumberedCommand). one_of i n (commands_of i css) ++ l) b
    ∙ joined i n (commands_of i css)

pub longest_enough : (i : ℕ) (css : List (List Command)) → length (commands_of i css) ≤ longest css
longest_enough i [] = omega arith
longest_enough zero (cs ∷ css) = omega arith
longest_enough (suc i) (cs ∷ css) = let h = longest_enough i css in omega (arith, h)
