-- Two lists of one length, item beside item.
use Rattle.std.proofs.Common.{◌≡◌, ◌<◌, ℕ, zero, suc, List, [], ◌∷◌, ◌++◌, Some, map, length, get_or, slice_get, refl, sym, ap, ◌∙◌, arith}
use Rattle.std.specs.List.{zip}
use Rattle.std.proofs.lemmas.List.{length-map}
use Rattle.run_data.specs.declared.jobs.Job.{Job}
use Rattle.live_tasks.specs.ReadyJobs.{root_of}
use Rattle.live_tasks.specs.declared.ready_jobs.Root.{Root}
use Rattle.std.proofs.lemmas.Slice.Zip.{length-zip}

module _ {A B : Type 0} where
  pub one_more : (firsts : List A) (seconds : List B) (first : A) (second : B) → length firsts ≡ length seconds →
      zip (firsts ++ first ∷ []) (seconds ++ second ∷ []) ≡ zip firsts seconds ++ (first, second) ∷ []
  one_more [] [] first second same = refl
  one_more [] (other ∷ seconds) first second same = absurd (omega (arith, same))
  one_more (one ∷ firsts) [] first second same = absurd (omega (arith, same))
  one_more (one ∷ firsts) (other ∷ seconds) first second same =
      ap (λ rest. (one, other) ∷ rest) (one_more firsts seconds first second (omega (arith, same)))

  pub as_long : (firsts : List A) (seconds : List B) → length firsts ≡ length seconds → length seconds ≡ length (zip firsts seconds)
  as_long firsts seconds same = let long = length-zip firsts seconds in omega (arith, same, long)

  -- an index within the pairs is one within the first list
  pub is_within : (firsts : List A) (seconds : List B) (pairs : List (A × B)) (size at : ℕ) → length firsts ≡ length seconds → zip firsts seconds ≡ pairs →
      size ≡ length firsts → at < length pairs → at < size
  is_within firsts seconds pairs size at same is kept known =
      let long = as_long firsts seconds same in
      let as_many = ap (λ (all : List (A × B)). length all) is in
      omega (arith, long, as_many, same, kept, known)

-- ---- ready tasks beside their jobs

pub same_length : (roots : List Root) (jobs : List Job) → map (λ (root : Root). root.path) roots ≡ map (λ (job : Job). job.path) jobs → length (map (λ (root : Root). root.made) roots) ≡ length jobs
same_length roots jobs same =
    length-map roots (λ (root : Root). root.made) ∙ sym (length-map roots (λ (root : Root). root.path)) ∙ ap (λ (paths : List (List ℕ)). length paths) same ∙ length-map jobs (λ (job : Job). job.path)

pub roots_are : (roots : List Root) (jobs : List Job) → map (λ (root : Root). root.path) roots ≡ map (λ (job : Job). job.path) jobs →
    roots ≡ map root_of (zip (map (λ (root : Root). root.made) roots) jobs)
roots_are [] [] same = refl
roots_are [] (job ∷ jobs) same = absurd (omega (arith, ap (λ (paths : List (List ℕ)). length paths) same))
roots_are (root ∷ roots) [] same = absurd (omega (arith, ap (λ (paths : List (List ℕ)). length paths) same))
roots_are (root ∷ roots) (job ∷ jobs) same =
    let path : root.path ≡ job.path = first_of same in
    let others : map (λ (root : Root). root.path) roots ≡ map (λ (job : Job). job.path) jobs = rest_of same in
    (λ i. record { path = path i; made = root.made } ∷ roots_are roots jobs others i)
  where
    first_of : {x y : List ℕ} {xs ys : List (List ℕ)} → x ∷ xs ≡ y ∷ ys → x ≡ y
    first_of e = cc

    rest_of : {x y : List ℕ} {xs ys : List (List ℕ)} → x ∷ xs ≡ y ∷ ys → xs ≡ ys
    rest_of e = cc

pub root_at : (roots : List Root) (i : ℕ) (root : Root) → i < length roots → root ≡ get_or roots i root → slice_get (map (λ (one : Root). one.made) roots) i ≡ Some root.made
root_at [] i root within is = absurd (omega arith)
root_at (first ∷ rest) zero root within is = ap (λ (one : Root). Some one.made) (sym is)
root_at (first ∷ rest) (suc i) root within is = root_at rest i root (omega arith) is
