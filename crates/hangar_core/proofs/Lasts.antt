-- The last revisions of dropped names, one more remembered.
use Rattle.std.proofs.Common.{Ordering, ◌≡◌, ℕ, true, false, List, [], ◌∷◌, Option, Some, None, refl, sym, ap, ◌∙◌}
use Rattle.std.specs.Prelude.{cond}
use Rattle.std.specs.Ordering.{nat_cmp, is_eq, match_ordering}
use Rattle.std.specs.declared.cmp.Ordering.TheVariants.{Less, Equal, Greater}
use Rattle.std.specs.Map.{lookup}
use Rattle.std.specs.BTreeMap.{insert_entry, is_at}
use Rattle.std.specs.Cmp.Lexicographic.{slice_cmp, texts_ties}
use Rattle.hangar_core.specs.Opening.{LastRevisions, last_revision, remembered}
use Rattle.hangar_core.proofs.Named.{same_when, name_is, apart_when}

at_own : (name : List ℕ) → is_eq (slice_cmp nat_cmp name name) ≡ true
at_own name = sym (texts_ties name name) ∙ same_when name name refl

at_other : (another name : List ℕ) → (name ≡ another → ⊥) → is_eq (slice_cmp nat_cmp another name) ≡ false
at_other another name n = sym (texts_ties another name) ∙ apart_when another name (λ e. n (sym e))

equal_names : (name key : List ℕ) → slice_cmp nat_cmp name key ≡ Equal → name ≡ key
equal_names name key e = name_is name key (texts_ties name key ∙ ap is_eq e)

-- what is looked up in the entries, one more put in front, in place of the first, or behind it
abbrev placed : Ordering → List ℕ → List ℕ → ℕ → List ℕ × ℕ → LastRevisions → Option ℕ
placed o another name revision e es =
    lookup (is_at (slice_cmp nat_cmp another))
    (match_ordering o ((name, revision) ∷ e ∷ es) ((e.0, revision) ∷ es) (e ∷ insert_entry (slice_cmp nat_cmp) es name revision))

pub last_of_own : (name : List ℕ) (revision : ℕ) (dropped : LastRevisions) → last_revision (remembered dropped name revision) name ≡ Some revision
last_of_own name revision [] = ap (λ s. cond s (Some revision) None) (at_own name)
last_of_own name revision (e ∷ es) = go (slice_cmp nat_cmp name e.0) refl (last_of_own name revision es)
  where
    go : (o : Ordering) → slice_cmp nat_cmp name e.0 ≡ o → last_revision (remembered es name revision) name ≡ Some revision →
        placed (slice_cmp nat_cmp name e.0) name name revision e es ≡ Some revision
    go Less h more =
        ap (λ o. placed o name name revision e es) h
        ∙ ap (λ s. cond s (Some revision) (lookup (is_at (slice_cmp nat_cmp name)) (e ∷ es))) (at_own name)
    go Equal h more =
        ap (λ o. placed o name name revision e es) h
        ∙ ap (λ o. cond (is_eq o) (Some revision) (lookup (is_at (slice_cmp nat_cmp name)) es)) h
    go Greater h more =
        ap (λ o. placed o name name revision e es) h
        ∙ ap (λ o. cond (is_eq o) (Some e.1) (last_revision (remembered es name revision) name)) h
        ∙ more

pub last_of_other : (another name : List ℕ) → (name ≡ another → ⊥) → (revision : ℕ) (dropped : LastRevisions) →
    last_revision (remembered dropped name revision) another ≡ last_revision dropped another
last_of_other another name n revision [] = ap (λ s. cond s (Some revision) None) (at_other another name n)
last_of_other another name n revision (e ∷ es) = go (slice_cmp nat_cmp name e.0) refl (last_of_other another name n revision es)
  where
    go : (o : Ordering) → slice_cmp nat_cmp name e.0 ≡ o → last_revision (remembered es name revision) another ≡ last_revision es another →
        placed (slice_cmp nat_cmp name e.0) another name revision e es ≡ last_revision (e ∷ es) another
    go Less h more =
        ap (λ o. placed o another name revision e es) h
        ∙ ap (λ s. cond s (Some revision) (lookup (is_at (slice_cmp nat_cmp another)) (e ∷ es))) (at_other another name n)
    go Equal h more =
        let far : is_eq (slice_cmp nat_cmp another e.0) ≡ false = at_other another e.0 (λ k. n (equal_names name e.0 h ∙ k)) in
        ap (λ o. placed o another name revision e es) h
        ∙ ap (λ s. cond s (Some revision) (lookup (is_at (slice_cmp nat_cmp another)) es)) far
        ∙ sym (ap (λ s. cond s (Some e.1) (lookup (is_at (slice_cmp nat_cmp another)) es)) far)
    go Greater h more =
        ap (λ o. placed o another name revision e es) h
        ∙ ap (λ o. cond (is_eq (slice_cmp nat_cmp another e.0)) (Some e.1) o) more
