-- The spans of a run are those that are made anew, put among those of another run.
use Rattle.std.proofs.Common.{◌≡◌, List, [], sym, ap, ◌∙◌}
use Rattle.aerie_base.specs.declared.models.model.Parts.{Parts}
use Rattle.run_data.specs.Spans.{SpanOf, Timed, sorted_spans, spans_from}
use Rattle.span_reuse.specs.declared.roots.TaskRoot.{TaskRoot}
use Rattle.span_reuse.specs.Left.{DifferIn}
use Rattle.span_reuse.specs.Putting.{put_each}
use Rattle.span_reuse.specs.Roots.{frames_passing, comes_from_one, is_outside_roots, spans_of_those}
use Rattle.span_reuse.proofs.InPlace.{each_sorted, others_sorted, put_apart}
use Rattle.span_reuse.proofs.OfRoots.{among_closed, outside_closed}
use Rattle.span_reuse.proofs.SomeTasks.{spans_of_some}
use Rattle.span_reuse.proofs.ToldAlike.{spans_alike}

module _ (model : Parts) (roots : List TaskRoot) (frames others : List Timed) where
  abbrev begun : List Timed → List SpanOf
  begun entries = spans_from entries model [] entries

  -- those of the tasks that come from no root are the same on both runs
  same_outside : DifferIn roots frames others → spans_of_those (is_outside_roots roots) (begun others) ≡ spans_of_those (is_outside_roots roots) (begun frames)
  same_outside differ =
      spans_of_some (is_outside_roots roots) others model [] others (outside_closed roots others differ.others)
      ∙ (sym (spans_alike model (frames_passing (is_outside_roots roots) frames) (frames_passing (is_outside_roots roots) others) differ.alike)
      ∙ sym (spans_of_some (is_outside_roots roots) frames model [] frames (outside_closed roots frames differ.paths)))

  pub spans_are : (part : List Timed) (found kept : List SpanOf) → DifferIn roots frames others → part ≡ frames_passing (comes_from_one roots) frames →
      found ≡ sorted_spans (begun part) → kept ≡ spans_of_those (is_outside_roots roots) (sorted_spans (begun others)) →
      put_each found kept ≡ sorted_spans (begun frames)
  spans_are part found kept differ of is those =
      ap (λ l. put_each l kept) (is ∙ ap (λ l. sorted_spans (begun l)) of)
      ∙ (each_sorted (begun (frames_passing (comes_from_one roots) frames)) kept
      ∙ (ap (λ l. put_each l kept) (sym (spans_of_some (comes_from_one roots) frames model [] frames (among_closed roots frames differ.paths)))
      ∙ (ap (put_each (spans_of_those (comes_from_one roots) (begun frames)))
      (those ∙ (others_sorted (comes_from_one roots) (begun others) ∙ ap sorted_spans (same_outside differ)))
      ∙ sym (put_apart (comes_from_one roots) (begun frames)))))
