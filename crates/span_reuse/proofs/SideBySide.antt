-- The frames of two runs are gone through side by side.
use Rattle.std.proofs.Common.{◌≡◌, ℕ, ◌+◌, ◌≤◌, ◌<◌, Bool, true, false, not, cond, List, [], ◌∷◌, ◌++◌, length, map, Option, Some, None, IsTrue, refl, sym, ap, subst, ◌∙◌, arith}
use Rattle.aerie_base.specs.Paths.{is_path}
use Rattle.run_data.specs.TaskFrames.{Frame}
use Rattle.run_data.specs.Spans.{Timed}
use Rattle.span_reuse.specs.declared.roots.TaskRoot.{TaskRoot}
use Rattle.span_reuse.specs.Left.{RestDecides, DifferIn, ExcludesMet, MeetsNext, NotesPair, PassesOver, met}
use Rattle.span_reuse.specs.Roots.{Excludes, frames_passing, comes_from_one, is_outside_roots}
use Rattle.span_reuse.specs.Telling.{AreOfPaths, TellSameSpans, told_of_spans}
use Rattle.span_reuse.proofs.OfRoots.{fewer_pass, root_at, root_fails}
use Rattle.span_reuse.proofs.SomeTasks.{filter_both}

pub map_both : {A B : Type 0} (f : A → B) (xs ys : List A) → map f (xs ++ ys) ≡ map f xs ++ map f ys
map_both f [] ys = refl
map_both f (x ∷ xs) ys = ap (λ l. f x ∷ l) (map_both f xs ys)

-- ---- one run

pub none_passed : (roots : List TaskRoot) (frames : List Timed) → PassesOver roots frames frames
none_passed roots frames = record { same = λ test all. refl; paths = λ are. are; fewer = omega arith }

module _ (roots : List TaskRoot) (before left after : List Timed) (time : ℕ) (frame : Frame) where
  pub passed_one : PassesOver roots before left → left ≡ (time, frame) ∷ after → comes_from_one roots frame.path ≡ true → IsTrue (is_path frame.path) →
      PassesOver roots before after
  passed_one passes is among of = record {
    same = λ test all. passes.same test all ∙ (ap (frames_passing test) is ∙ ap (λ b. cond b ((time, frame) ∷ frames_passing test after) (frames_passing test after)) (all frame.path among));
    paths = λ are. passes.paths (subst AreOfPaths (sym is) (of, are));
    fewer =
        let less : length left ≤ length before = passes.fewer in
        let more : length left ≡ length ((time, frame) ∷ after) = ap (λ (l : List Timed). length l) is in
        omega (arith, less, more);
  }

  pub met_one : PassesOver roots before left → left ≡ (time, frame) ∷ after → IsTrue (is_path frame.path) → MeetsNext roots before after time (Some frame)
  met_one passes is of = record {
    same = λ test all. passes.same test all ∙ ap (frames_passing test) is;
    paths = λ are. passes.paths (subst AreOfPaths (sym is) (of, are));
    fewer =
        let less : length left ≤ length before = passes.fewer in
        let more : length left ≡ length ((time, frame) ∷ after) = ap (λ (l : List Timed). length l) is in
        omega (arith, less, more);
    none = λ e. absurd (cc);
  }

pub met_none : (roots : List TaskRoot) (before left after : List Timed) (time : ℕ) → PassesOver roots before left → left ≡ [] → after ≡ [] →
    MeetsNext roots before after time None
met_none roots before left after time passes is none = record {
  same = λ test all. passes.same test all ∙ ap (frames_passing test) (is ∙ sym none);
  paths = λ are. passes.paths (subst AreOfPaths (sym is) tt);
  fewer =
      let less : length left ≤ length before = passes.fewer in
      let nothing : length after ≡ 0 = ap (λ (l : List Timed). length l) none in
      omega (arith, less, nothing);
  none = λ e. none;
}

-- ---- two frames

-- what passes a test does so by what it tells
told_of : (test : List ℕ → Bool) (frames : List Timed) → map told_of_spans (frames_passing test frames) ≡ frames_passing test (map told_of_spans frames)
told_of test [] = refl
told_of test (entry ∷ rest) = go (test entry.1.path) (told_of test rest)
  where
    go : (c : Bool) → map told_of_spans (frames_passing test rest) ≡ frames_passing test (map told_of_spans rest) →
        map told_of_spans (cond c (entry ∷ frames_passing test rest) (frames_passing test rest)) ≡ cond c (told_of_spans entry ∷ frames_passing test (map told_of_spans rest)) (frames_passing test (map told_of_spans rest))
    go true after = ap (λ l. told_of_spans entry ∷ l) after
    go false after = after

pub alike_pair : (roots : List TaskRoot) (frames others : List Timed) → map told_of_spans frames ≡ map told_of_spans others → NotesPair roots roots frames others
alike_pair roots frames others same = record {
  before_too = λ test all. all;
  alike = λ test all. told_of test frames ∙ (ap (frames_passing test) same ∙ sym (told_of test others));
}

pub none_met : (roots : List TaskRoot) → ExcludesMet roots roots None
none_met roots = record { before_too = λ test all. all; this_too = λ test all time. refl }

pub root_met : (roots : List TaskRoot) (frame : Frame) → ExcludesMet roots (roots ++ root_at frame.path ∷ []) (Some frame)
root_met roots frame = record {
  before_too = λ test all. fewer_pass roots (root_at frame.path) test all;
  this_too = λ test all time. ap (λ b. cond b ((time, frame) ∷ []) []) (root_fails roots frame.path test all);
}

pub both_noted : (roots more most : List TaskRoot) (time other_time : ℕ) (frame other : Option Frame) → ExcludesMet roots more frame → ExcludesMet more most other →
    NotesPair roots most (met time frame) (met other_time other)
both_noted roots more most time other_time frame other one two = record {
  before_too = λ test all. one.before_too test (two.before_too test all);
  alike = λ test all. ap (map told_of_spans) (one.this_too test (two.before_too test all) time) ∙ sym (ap (map told_of_spans) (two.this_too test all other_time));
}

-- ---- two runs

alike_behind : (test : List ℕ → Bool) (front others left rest : List Timed) → TellSameSpans test front others → TellSameSpans test left rest →
    TellSameSpans test (front ++ left) (others ++ rest)
alike_behind test front others left rest e f =
    (ap (map told_of_spans) (filter_both (λ (entry : Timed). test entry.1.path) front left) ∙ map_both told_of_spans (frames_passing test front) (frames_passing test left))
    ∙ (ap (λ l. l ++ map told_of_spans (frames_passing test left)) e
    ∙ (ap (λ l. map told_of_spans (frames_passing test others) ++ l) f
    ∙ sym (ap (map told_of_spans) (filter_both (λ (entry : Timed). test entry.1.path) others rest) ∙ map_both told_of_spans (frames_passing test others) (frames_passing test rest))))

module _ (roots : List TaskRoot) (all whole : List Timed) where
  pub from_the_beginning : RestDecides roots all whole all whole
  from_the_beginning = record { alike = λ test excluded same. same; paths = λ are. are; others = λ are. are }

  pub goes_on : (more : List TaskRoot) (left rest after later : List Timed) (time other_time : ℕ) (frame other : Option Frame) →
      RestDecides roots all whole left rest → MeetsNext roots left after time frame → MeetsNext roots rest later other_time other →
      NotesPair roots more (met time frame) (met other_time other) → RestDecides more all whole after later
  goes_on more left rest after later time other_time frame other from one two pair = record {
    alike = λ test excluded same.
        from.alike test (pair.before_too test excluded)
        (ap (map told_of_spans) (one.same test (pair.before_too test excluded))
        ∙ (alike_behind test (met time frame) (met other_time other) after later (pair.alike test excluded) same
        ∙ sym (ap (map told_of_spans) (two.same test (pair.before_too test excluded)))));
    paths = λ are. from.paths (one.paths are);
    others = λ are. from.others (two.paths are);
  }

  nothing_left : (left after : List Timed) (time : ℕ) → MeetsNext roots left after time None → (test : List ℕ → Bool) → Excludes roots test → frames_passing test left ≡ []
  nothing_left left after time next test excluded = next.same test excluded ∙ ap (frames_passing test) (next.none refl)

  pub at_the_end : (left rest after later : List Timed) (time other_time : ℕ) →
      RestDecides roots all whole left rest → MeetsNext roots left after time None → MeetsNext roots rest later other_time None → DifferIn roots all whole
  at_the_end left rest after later time other_time from one two =
      let excluded : Excludes roots (is_outside_roots roots) = λ path among. ap not among in
      record {
        alike =
            from.alike (is_outside_roots roots) excluded
            (ap (map told_of_spans) (nothing_left left after time one (is_outside_roots roots) excluded)
            ∙ sym (ap (map told_of_spans) (nothing_left rest later other_time two (is_outside_roots roots) excluded)));
        paths = from.paths (one.paths (subst AreOfPaths (sym (one.none refl)) tt));
        others = from.others (two.paths (subst AreOfPaths (sym (two.none refl)) tt));
      }

-- ---- in the loop

abbrev Meets : List TaskRoot → List Timed → List Timed → ℕ → Option Frame → Type 0
Meets roots before after time found = MeetsNext roots before after time found

pub step_on : (known roots more : List TaskRoot) (all whole left rest after later : List Timed) (t time u other_time : ℕ) (frame other : Option Frame) →
    known ≡ roots → t ≡ time → u ≡ other_time → RestDecides roots all whole left rest → MeetsNext known left after time frame →
    MeetsNext known rest later other_time other → NotesPair roots more (met t frame) (met u other) → RestDecides more all whole after later
step_on known roots more all whole left rest after later t time u other_time frame other same at at_other from one two pair =
    goes_on roots all whole more left rest after later t u frame other from
    (subst (λ (n : ℕ). Meets roots left after n frame) (sym at) (subst (λ (r : List TaskRoot). Meets r left after time frame) same one))
    (subst (λ (n : ℕ). Meets roots rest later n other) (sym at_other) (subst (λ (r : List TaskRoot). Meets r rest later other_time other) same two))
    pair

pub fewer_left : (known : List TaskRoot) (left rest after later : List Timed) (time other_time : ℕ) (frame other : Option Frame) →
    MeetsNext known left after time frame → MeetsNext known rest later other_time other → 1 ≤ length (met time frame) + length (met other_time other) →
    length after + length later < length left + length rest
fewer_left known left rest after later time other_time frame other one two some =
    let first : length (met time frame) + length after ≤ length left = one.fewer in
    let second : length (met other_time other) + length later ≤ length rest = two.fewer in
    omega (arith, first, second, some)

pub end_with : (known roots : List TaskRoot) (all whole left rest after later : List Timed) (time other_time : ℕ) (frame other : Option Frame) →
    known ≡ roots → (frame ≡ None) × (other ≡ None) → RestDecides roots all whole left rest → MeetsNext known left after time frame →
    MeetsNext known rest later other_time other → DifferIn roots all whole
end_with known roots all whole left rest after later time other_time frame other same none from one two =
    at_the_end roots all whole left rest after later time other_time from
    (subst (Meets roots left after time) none.0 (subst (λ (r : List TaskRoot). Meets r left after time frame) same one))
    (subst (Meets roots rest later other_time) none.1 (subst (λ (r : List TaskRoot). Meets r rest later other_time other) same two))
