-- Which paths are under which, and which jobs are apart: those of the children of one job, and of two that are apart.
use Rattle.std.proofs.Common.{◌≡◌, ℕ, ◌≤◌, nat_eq, Bool, true, false, ◌&&◌, List, [], ◌∷◌, ◌++◌, refl, sym, ap, ◌∙◌}
use Rattle.std.proofs.lemmas.Bool.{false≢true}
use Rattle.aerie_base.specs.Paths.{child_path, is_prefix}
use Rattle.run_data.specs.declared.jobs.Job.{Job}
use Rattle.run_data.specs.laws.Orders.{AreApart}
use Rattle.run_data.specs.laws.PathsUnder.{both_true, same_number}

and_false : (flag : Bool) → (flag && false) ≡ false
and_false true = refl
and_false false = refl

not_true : (flag : Bool) → (flag ≡ true → ⊥) → flag ≡ false
not_true true h = absurd (h refl)
not_true false h = refl

-- ---- children's paths

-- the number that a child's path ends in, and what stands before it
child_is : (path other : List ℕ) (number count : ℕ) → child_path path number ≡ child_path other count → (path ≡ other) × (number ≡ count)
child_is [] [] number count e = (refl, cc)
child_is [] (first ∷ []) number count e = absurd (cc)
child_is [] (first ∷ second ∷ other) number count e = absurd (cc)
child_is (first ∷ []) [] number count e = absurd (cc)
child_is (first ∷ second ∷ path) [] number count e = absurd (cc)
child_is (first ∷ path) (again ∷ other) number count e =
    let head : first ≡ again = cc in
    let tail : path ++ number ∷ [] ≡ other ++ count ∷ [] = cc in
    let further = child_is path other number count tail in
    ((λ i. head i ∷ further.0 i), further.1)

-- a path is under no child of a child of its maker's
too_long : (path : List ℕ) (number count further : ℕ) → is_prefix (child_path (child_path path number) further) (child_path path count) ≡ false
too_long [] number count further = and_false (nat_eq number count)
too_long (first ∷ path) number count further =
    ap (λ (b : Bool). nat_eq first first && b) (too_long path number count further) ∙ and_false (nat_eq first first)

-- what a child of a path is above of is above without the last numbers
pub shorter : (path other : List ℕ) (number count : ℕ) → is_prefix (child_path path number) (child_path other count) ≡ true → is_prefix path other ≡ true
shorter [] other number count h = refl
shorter (first ∷ []) [] number count h = absurd (false≢true (sym (and_false (nat_eq first count)) ∙ h))
shorter (first ∷ second ∷ path) [] number count h = absurd (false≢true (sym (and_false (nat_eq first count)) ∙ h))
shorter (first ∷ path) (again ∷ other) number count h =
    let fit = both_true (nat_eq first again) (is_prefix (child_path path number) (child_path other count)) h in
    λ i. fit.0 i && shorter path other number count fit.1 i

-- ---- jobs apart

-- the children of one job are apart
pub siblings_apart : (path : List ℕ) (number count : ℕ) (job other : Job) → (number ≡ count → ⊥) → job.path ≡ child_path path number → other.path ≡ child_path path count → AreApart (0, job) (0, other)
siblings_apart path number count job other differ e f = record {
  different = λ same. differ (child_is path path number count (sym e ∙ same ∙ f)).1;
  no_child = λ further above. (λ i. is_prefix (child_path (e i) further) (f i)) ∙ too_long path number count further;
  no_parent = λ further above. (λ i. is_prefix (child_path (f i) further) (e i)) ∙ too_long path count number further;
}

module _ (first second : ℕ × Job) (number count : ℕ) (job other : Job) (e : job.path ≡ child_path first.1.path number) (f : other.path ≡ child_path second.1.path count) where
  not_above : first.0 ≤ number → AreApart first second → (further : ℕ) → is_prefix (child_path job.path further) other.path ≡ false
  not_above less apart further =
      not_true (is_prefix (child_path job.path further) other.path)
      (λ h. false≢true (sym (apart.no_child number less)
      ∙ shorter (child_path first.1.path number) second.1.path further count (sym (λ i. is_prefix (child_path (e i) further) (f i)) ∙ h)))

-- the children of two jobs that are apart are apart
pub cousins_apart : (first second : ℕ × Job) (number count : ℕ) (job other : Job) → AreApart first second → first.0 ≤ number → second.0 ≤ count →
    job.path ≡ child_path first.1.path number → other.path ≡ child_path second.1.path count → AreApart (0, job) (0, other)
cousins_apart first second number count job other apart less more e f =
    let back : AreApart second first = record { different = λ same. apart.different (sym same); no_child = apart.no_parent; no_parent = apart.no_child } in record {
      different = λ same. apart.different (child_is first.1.path second.1.path number count (sym e ∙ same ∙ f)).0;
      no_child = λ further above. not_above first second number count job other e f less apart further;
      no_parent = λ further above. not_above second first count number other job f e more back further;
    }

-- ---- paths below two children

-- a path is under no child of its own
pub not_above_itself : (path : List ℕ) (number : ℕ) → is_prefix (child_path path number) path ≡ false
not_above_itself [] number = refl
not_above_itself (first ∷ path) number = ap (λ (b : Bool). nat_eq first first && b) (not_above_itself path number) ∙ and_false (nat_eq first first)

-- what is under two children of a path is under one
pub one_number : (path below : List ℕ) (number count : ℕ) → is_prefix (child_path path number) below ≡ true → is_prefix (child_path path count) below ≡ true → number ≡ count
one_number [] [] number count h k = absurd (false≢true h)
one_number [] (here ∷ below) number count h k =
    let left = both_true (nat_eq number here) (is_prefix [] below) h in
    let right = both_true (nat_eq count here) (is_prefix [] below) k in
    same_number number here left.0 ∙ sym (same_number count here right.0)
one_number (first ∷ path) [] number count h k = absurd (false≢true h)
one_number (first ∷ path) (here ∷ below) number count h k =
    let left = both_true (nat_eq first here) (is_prefix (child_path path number) below) h in
    let right = both_true (nat_eq first here) (is_prefix (child_path path count) below) k in
    one_number path below number count left.1 right.1
