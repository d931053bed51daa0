-- Names of which none is refused differ.
use Rattle.std.proofs.Common.{◌≡◌, ℕ, suc, length, ◌&&◌, true, false, not, List, [], ◌∷◌, ◌++◌, Some, None, Ok, Err, map, refl, sym, ap, ◌∙◌, subst, append_assoc}
use Rattle.std.proofs.lemmas.List.Sorted.{IsPermutation-middle}
use Rattle.aerie_base.specs.declared.models.model.Parts.{Parts}
use Rattle.aerie_base.specs.models.NameLaws.{distinct_permuted}
use Rattle.aerie_base.specs.models.Names.{is_name_among, are_distinct}
use Rattle.model_check.specs.CheckAnswers.{told}
use Rattle.model_check.specs.ModelDiagnostics.{first_refused}
use Rattle.model_check.specs.ModelMeaning.{model_of, names_of}
use Rattle.diagnostics.specs.NameLists.{with_name}
use Rattle.diagnostics.specs.NotedInTurn.{front_empty, back_empty, holds_if_empty}
use Rattle.model_reader.specs.declared.raw.models.RawModel.{RawModel}
use Rattle.model_reader.specs.declared.raw.names.RawName.{RawName}
use Rattle.session_reader.specs.Answers.{Answer, in_front}
use Rattle.session_reader.specs.CheckedModels.{model_answer, models_answer, of_check}
use Rattle.diagnostics.specs.Diagnostics.{refused_unless}
use Rattle.session_reader.specs.RepeatedNames.{repeated_diagnostics}
use Rattle.session_reader.specs.declared.causes.Cause.TheVariants.{Duplicate}
use Rattle.session_reader.proofs.Found.{not_true}

none_more : {A : Type 0} (xs : List A) → xs ≡ xs ++ []
none_more [] = refl
none_more (x ∷ xs) = ap (λ (ys : List _). x ∷ ys) (none_more xs)

distinct_with : (names : List (List ℕ)) (name : List ℕ) → are_distinct names ≡ true → not (is_name_among name names) ≡ true → are_distinct (names ++ name ∷ []) ≡ true
distinct_with names name distinct apart =
    distinct_permuted (names ++ name ∷ []) (name ∷ (names ++ [])) (IsPermutation-middle names name [])
    ∙ (λ i. not (is_name_among name (sym (none_more names) i)) && are_distinct (sym (none_more names) i)) ∙ joined
  where
    joined : (not (is_name_among name names) && are_distinct names) ≡ true
    joined = rw (apart, distinct) refl

new_name : (names : List (List ℕ)) (name : List ℕ) → is_name_among name names ≡ false → with_name names name ≡ names ++ name ∷ []
new_name names name e = rw e refl

different_behind : (earlier : List (List ℕ)) (names : List RawName) → are_distinct earlier ≡ true → repeated_diagnostics earlier names ≡ [] → are_distinct (earlier ++ names_of names) ≡ true
different_behind earlier [] distinct none = ap are_distinct (sym (none_more earlier)) ∙ distinct
different_behind earlier (name ∷ rest) distinct none =
    let here = refused_unless (not (is_name_among name.name earlier)) Duplicate name.at in
    let apart = holds_if_empty (not (is_name_among name.name earlier)) Duplicate name.at (front_empty here _ none) in
    let is = new_name earlier name.name (not_true (is_name_among name.name earlier) apart) in
    let later = subst (λ (names : List (List ℕ)). repeated_diagnostics names rest ≡ []) is (back_empty here _ none) in
    let more = different_behind (earlier ++ name.name ∷ []) rest (distinct_with earlier name.name distinct apart) later in
    ap are_distinct (sym (append_assoc earlier (name.name ∷ []) (names_of rest))) ∙ more

pub different : (names : List RawName) → repeated_diagnostics [] names ≡ [] → are_distinct (names_of names) ≡ true
different names none = different_behind [] names refl none

-- ---- models keep their names

name_kept : (raw : RawModel) (model : Parts) → model_answer raw ≡ Ok model → model.name ≡ raw.name.name
unfolding model_of
name_kept raw model h = go (first_refused raw) h
  where
    go : (found : _) → of_check (told found (model_of raw)) ≡ Ok model → model.name ≡ raw.name.name
    go None h = cc
    go (Some found) h = cc

pub names_kept : (raws : List RawModel) (models : List Parts) → models_answer raws ≡ Ok models → map (λ model. model.name) models ≡ names_of (map (λ raw. raw.name) raws)
names_kept [] models h = cc
names_kept (raw ∷ rest) models h = go (model_answer raw) (models_answer rest) refl refl (names_kept rest) h
  where
    go : (one : Answer Parts) (others : Answer (List Parts)) → model_answer raw ≡ one → models_answer rest ≡ others →
        ((more : List Parts) → models_answer rest ≡ Ok more → map (λ (model : Parts). model.name) more ≡ names_of (map (λ (raw : RawModel). raw.name) rest)) →
        in_front one others ≡ Ok models → map (λ (model : Parts). model.name) models ≡ names_of (map (λ (raw : RawModel). raw.name) (raw ∷ rest))
    go (Err refusal) others e f kept h = cc
    go (Ok one) (Err refusal) e f kept h = cc
    go (Ok one) (Ok others) e f kept h =
        let is : one ∷ others ≡ models = cc in
        ap (map (λ (model : Parts). model.name)) (sym is) ∙ (λ i. name_kept raw one e i ∷ kept others f i)

pub as_many : (raws : List RawModel) (models : List Parts) → models_answer raws ≡ Ok models → length models ≡ length raws
as_many [] models h = cc
as_many (raw ∷ rest) models h = go (model_answer raw) (models_answer rest) refl (as_many rest) h
  where
    go : (one : Answer Parts) (others : Answer (List Parts)) → models_answer rest ≡ others → ((more : List Parts) → models_answer rest ≡ Ok more → length more ≡ length rest) →
        in_front one others ≡ Ok models → length models ≡ length (raw ∷ rest)
    go (Err refusal) others f many h = cc
    go (Ok one) (Err refusal) f many h = cc
    go (Ok one) (Ok others) f many h =
        let is : one ∷ others ≡ models = cc in
        ap length (sym is) ∙ ap suc (many others f)
