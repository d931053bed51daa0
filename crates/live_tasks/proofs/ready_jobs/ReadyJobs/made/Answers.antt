use Rattle.std.proofs.Common.{◌∙◌, ap, sym, map, length, List, ℕ}
use Rattle.std.specs.List.{slice_get}
use Rattle.std.proofs.lemmas.List.{length-map}
use Rattle.std.proofs.lemmas.Slice.Zip.{firsts-zip}
use Rattle.run_data.specs.declared.jobs.Job.{Job}
use Rattle.live_tasks.specs.declared.ready_jobs.Root.{Root}
use Rattle.live_tasks.proofs.Pairs.{is_within, same_length, root_at}
use Rattle.live_tasks.proofs.ready_jobs.ReadyJobs.made.Goals as goal

pub index-requires : goal.index-requires
index-requires c =
    is_within (map (λ (root : Root). root.made) c.self.inside.roots.items) c.self.inside.jobs.items _ _ _ (same_length c.self.inside.roots.items c.self.inside.jobs.items c.self.invariant)
    c.self.view_is (c.self.inside.roots.ok.0 ∙ sym (length-map c.self.inside.roots.items (λ (root : Root). root.made))) c.requires

pub returns : goal.returns
returns c =
    let within = is_within (map (λ (root : Root). root.made) c.self.inside.roots.items) c.self.inside.jobs.items _ (length c.self.inside.roots.items) _
    (same_length c.self.inside.roots.items c.self.inside.jobs.items c.self.invariant) c.self.view_is (sym (length-map c.self.inside.roots.items (λ (root : Root). root.made))) c.requires in
    ap (λ (ready : List (ℕ × Job)). slice_get (map (λ job. job.0) ready) c.args.at) (sym c.self.view_is)
    ∙ ap (λ (numbers : List ℕ). slice_get numbers c.args.at)
    (firsts-zip (map (λ (root : Root). root.made) c.self.inside.roots.items) c.self.inside.jobs.items (sym (same_length c.self.inside.roots.items c.self.inside.jobs.items c.self.invariant)))
    ∙ root_at c.self.inside.roots.items c.args.at c.index.result.now within c.index.ensures
