-- A file of lemmas: what it proves need not be read to trust a clause.
--
-- Of jobs one after another, how those that are left decide whether frames that fit all of them are found.
use Rattle.std.proofs.Common.{◌≡◌, List, [], ◌∷◌, ◌++◌, refl, sym, ap, ◌∙◌, subst, append_assoc}
use Rattle.std.proofs.lemmas.List.{append-nil}
use Rattle.run_data.specs.TaskFrames.{Frame}
use Rattle.run_data.specs.laws.BatchFrames.{Among}
use Rattle.run_data.specs.laws.FittingFrames.{AreOfEach}
use Rattle.run_data.specs.laws.Orders.{EachOf}
use Rattle.fitting.specs.Fitting.{AreAmong, Lacks, Finds}

-- ---- what holds of each

pub each_first : {A : Type 0} (P : A → Type 0) (first rest : List A) → EachOf P (first ++ rest) → EachOf P first
each_first P [] rest each = tt
each_first P (one ∷ first) rest each = (each.0, each_first P first rest each.1)

pub each_rest : {A : Type 0} (P : A → Type 0) (first rest : List A) → EachOf P (first ++ rest) → EachOf P rest
each_rest P [] rest each = each
each_rest P (one ∷ first) rest each = each_rest P first rest each.1

pub each_weaker : {A : Type 0} (P Q : A → Type 0) → ((one : A) → P one → Q one) → (all : List A) → EachOf P all → EachOf Q all
each_weaker P Q gives [] each = tt
each_weaker P Q gives (one ∷ rest) each = (gives one each.0, each_weaker P Q gives rest each.1)

-- ---- jobs one after another

-- of some jobs those that are left decide about all of them
pub record DecidesAll {A : Type 0} (Fit : A → List Frame → Type 0) (old : List Frame) (whole left : List A) (before now : List Frame) : Type 0 where
  pub done : List Frame
  pub is : now ≡ before ++ done
  pub fits : (rest : List Frame) → AreOfEach Fit left rest → AreOfEach Fit whole (done ++ rest)
  pub lacks : Lacks (AreOfEach Fit left) old → Lacks (AreOfEach Fit whole) old

module _ {A : Type 0} (Fit : A → List Frame → Type 0) (old : List Frame) (whole : List A) (before : List Frame) where
  pub decides_first : (now : List Frame) → now ≡ before → DecidesAll Fit old whole whole before now
  decides_first now same = record {
    done = [];
    is = same ∙ sym (append-nil before);
    fits = λ rest h. h;
    lacks = λ h. h;
  }

  pub decides_more : (one : A) (left : List A) (now after : List Frame) → DecidesAll Fit old whole (one ∷ left) before now → Finds (Fit one) now after → DecidesAll Fit old whole left before after
  decides_more one left now after so_far found = record {
    done = so_far.done ++ found.0;
    is = found.1 ∙ ap (λ (l : List Frame). l ++ found.0) so_far.is ∙ append_assoc before so_far.done found.0;
    fits = λ rest h.
        subst (AreOfEach Fit whole) (sym (append_assoc so_far.done found.0 rest))
        (so_far.fits (found.0 ++ rest) (record { first = found.0; others = rest; are = refl; is_first = found.2; is_others = h }));
    lacks = λ none.
        so_far.lacks
        (λ differ frames fit among.
        none differ fit.others fit.is_others (each_rest (λ frame. Among frame old) fit.first fit.others (subst (AreAmong old) fit.are among)));
  }

  pub decides_none : (one : A) (left : List A) (now : List Frame) → DecidesAll Fit old whole (one ∷ left) before now → Lacks (Fit one) old → Lacks (AreOfEach Fit whole) old
  decides_none one left now so_far none =
      so_far.lacks
      (λ differ frames fit among.
      none differ fit.first fit.is_first (each_first (λ frame. Among frame old) fit.first fit.others (subst (AreAmong old) fit.are among)))

  pub decides_all : (now : List Frame) → DecidesAll Fit old whole [] before now → Finds (AreOfEach Fit whole) before now
  decides_all now so_far = (so_far.done, so_far.is, subst (AreOfEach Fit whole) (append-nil so_far.done) (so_far.fits [] refl))
