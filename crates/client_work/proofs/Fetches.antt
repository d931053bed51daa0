-- What follows from what a Fetch gives.
use Rattle.std.proofs.Common.{◌≡◌, refl, sym, ap, ℕ, Option, None, Result, Ok, Err}
use Rattle.aerie_base.specs.declared.plans.Plan.{Plan}
use Rattle.hangar_core.specs.declared.actions.Action.{Action}
use Rattle.hangar_core.specs.declared.replies.Reply.{Reply}
use Rattle.hangar_core.specs.declared.replies.Reply.TheVariants as reply
use Rattle.hangar_core.specs.Fits.{on_fetched}
use Rattle.report_text.specs.declared.answers.Answer.{Answer}
use Rattle.report_text.specs.declared.answers.Answer.TheVariants as answer
use Rattle.client_work.specs.declared.fetching.FetchedBranch.{FetchedBranch}
use Rattle.client_work.specs.declared.missions.Mission.{Mission}
use Rattle.client_work.specs.Counts.{PaysAsFetched}
use Rattle.client_work.specs.Fetching.{fetched_by, reply_with}
use Rattle.client_work.specs.Told.{by_fetched}

abbrev Found : FetchedBranch → Result FetchedBranch Reply
Found branch = Ok branch

abbrev Refused : Reply → Result FetchedBranch Reply
Refused refusal = Err refusal

same_ok : (one other : FetchedBranch) → Found one ≡ Found other → one ≡ other
same_ok one other e = cc

same_err : (one other : Reply) → Refused one ≡ Refused other → one ≡ other
same_err one other e = cc

no_err : (branch : FetchedBranch) (refusal : Reply) → Found branch ≡ Refused refusal → ⊥
no_err branch refusal e = cc

no_ok : (branch : FetchedBranch) (refusal : Reply) → Refused refusal ≡ Found branch → ⊥
no_ok branch refusal e = cc

-- a refusal is told as it is, nothing follows it, and no statements are told
pub record IsRefused (said refusal : Reply) : Type 0 where
  pub same : refusal ≡ said
  pub none : (next : ℕ → Plan → Option Action) → on_fetched said next ≡ None
  pub told : (told : ℕ → Plan → Answer) → by_fetched said told ≡ answer.Reply said
  pub paid : (mission : Mission) → PaysAsFetched mission said 0

pub refused : (said refusal : Reply) → fetched_by said ≡ Err refusal → IsRefused said refusal
refused (reply.Fetched revision plan kept) refusal e = absurd (no_err (record { revision = revision; plan = plan; kept = kept }) refusal e)
refused (reply.Opened revision) refusal e = record { same = sym (same_err (reply.Opened revision) refusal e); none = λ next. refl; told = λ told. refl; paid = λ mission. refl }
refused reply.Dropped refusal e = record { same = sym (same_err reply.Dropped refusal e); none = λ next. refl; told = λ told. refl; paid = λ mission. refl }
refused (reply.Added id revision) refusal e = record { same = sym (same_err (reply.Added id revision) refusal e); none = λ next. refl; told = λ told. refl; paid = λ mission. refl }
refused (reply.Edited revision) refusal e = record { same = sym (same_err (reply.Edited revision) refusal e); none = λ next. refl; told = λ told. refl; paid = λ mission. refl }
refused (reply.Loaded first count revision) refusal e = record { same = sym (same_err (reply.Loaded first count revision) refusal e); none = λ next. refl; told = λ told. refl; paid = λ mission. refl }
refused reply.Attached refusal e = record { same = sym (same_err reply.Attached refusal e); none = λ next. refl; told = λ told. refl; paid = λ mission. refl }
refused (reply.Placed revision) refusal e = record { same = sym (same_err (reply.Placed revision) refusal e); none = λ next. refl; told = λ told. refl; paid = λ mission. refl }
refused reply.NoBranch refusal e = record { same = sym (same_err reply.NoBranch refusal e); none = λ next. refl; told = λ told. refl; paid = λ mission. refl }
refused reply.BranchExists refusal e = record { same = sym (same_err reply.BranchExists refusal e); none = λ next. refl; told = λ told. refl; paid = λ mission. refl }
refused reply.TooManyBranches refusal e = record { same = sym (same_err reply.TooManyBranches refusal e); none = λ next. refl; told = λ told. refl; paid = λ mission. refl }
refused reply.NoMapping refusal e = record { same = sym (same_err reply.NoMapping refusal e); none = λ next. refl; told = λ told. refl; paid = λ mission. refl }
refused (reply.Unmapped id) refusal e = record { same = sym (same_err (reply.Unmapped id) refusal e); none = λ next. refl; told = λ told. refl; paid = λ mission. refl }
refused (reply.Misfit id number) refusal e = record { same = sym (same_err (reply.Misfit id number) refusal e); none = λ next. refl; told = λ told. refl; paid = λ mission. refl }
refused (reply.Edit error) refusal e = record { same = sym (same_err (reply.Edit error) refusal e); none = λ next. refl; told = λ told. refl; paid = λ mission. refl }
refused (reply.Stale seen now) refusal e = record { same = sym (same_err (reply.Stale seen now) refusal e); none = λ next. refl; told = λ told. refl; paid = λ mission. refl }

-- the reply to a Fetch that gave a branch
pub was_fetched : (said : Reply) (branch : FetchedBranch) → fetched_by said ≡ Ok branch → said ≡ reply_with branch
was_fetched (reply.Fetched revision plan kept) branch e = ap reply_with (same_ok (record { revision = revision; plan = plan; kept = kept }) branch e)
was_fetched (reply.Opened revision) branch e = absurd (no_ok branch (reply.Opened revision) e)
was_fetched reply.Dropped branch e = absurd (no_ok branch reply.Dropped e)
was_fetched (reply.Added id revision) branch e = absurd (no_ok branch (reply.Added id revision) e)
was_fetched (reply.Edited revision) branch e = absurd (no_ok branch (reply.Edited revision) e)
was_fetched (reply.Loaded first count revision) branch e = absurd (no_ok branch (reply.Loaded first count revision) e)
was_fetched reply.Attached branch e = absurd (no_ok branch reply.Attached e)
was_fetched (reply.Placed revision) branch e = absurd (no_ok branch (reply.Placed revision) e)
was_fetched reply.NoBranch branch e = absurd (no_ok branch reply.NoBranch e)
was_fetched reply.BranchExists branch e = absurd (no_ok branch reply.BranchExists e)
was_fetched reply.TooManyBranches branch e = absurd (no_ok branch reply.TooManyBranches e)
was_fetched reply.NoMapping branch e = absurd (no_ok branch reply.NoMapping e)
was_fetched (reply.Unmapped id) branch e = absurd (no_ok branch (reply.Unmapped id) e)
was_fetched (reply.Misfit id number) branch e = absurd (no_ok branch (reply.Misfit id number) e)
was_fetched (reply.Edit refusal) branch e = absurd (no_ok branch (reply.Edit refusal) e)
was_fetched (reply.Stale seen now) branch e = absurd (no_ok branch (reply.Stale seen now) e)
