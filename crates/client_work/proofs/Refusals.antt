-- Commands that are over.
use Rattle.std.proofs.Common.{◌≡◌, refl, sym, ap, subst, ◌∙◌, ℕ, arith, Bool, true, false, List, [], ◌∷◌, None, Result, Ok, Err, if◌then◌else◌}
use Rattle.hangar_core.specs.declared.actions.Action.TheVariants as action
use Rattle.commands.specs.declared.commands.Command.{Command}
use Rattle.commands.specs.declared.commands.Command.TheVariants.{New, Fork, Drop, Edit, Migrate, Show, Simulate, Schedule, Merge, Expand}
use Rattle.hangar_core.specs.declared.replies.Reply.{Reply}
use Rattle.hangar_core.specs.declared.replies.Reply.TheVariants as reply
use Rattle.hangar_core.specs.Fits.{place_merged}
use Rattle.hangar_lock.specs.Passes.{PassView}
use Rattle.plan_merge.specs.declared.answers.Merged.{Merged}
use Rattle.plan_merge.specs.declared.answers.MergeError.{MergeError}
use Rattle.plan_merge.specs.Merging.{merge_of}
use Rattle.report_text.specs.declared.answers.Answer.{Answer}
use Rattle.report_text.specs.declared.answers.Answer.TheVariants as answer
use Rattle.client_work.specs.declared.fetching.FetchedBranch.{FetchedBranch}
use Rattle.client_work.specs.declared.missions.Mission.{Mission}
use Rattle.client_work.specs.declared.workplace.ClientCommand.{ClientCommand}
use Rattle.client_work.specs.Fetching.{fetched_by, reply_with}
use Rattle.client_work.specs.Meanings.{are_of_one_model, plan_if_merged}
use Rattle.client_work.specs.Told.{merged_or_refused}
use Rattle.client_work.specs.MergesCarriedOn.{IsMergeCarriedOn}
use Rattle.client_work.specs.Working.{begun_with, entry_of, HasOneMore, IsCarriedOn, work_state_at}
use Rattle.client_work.proofs.Carrying.{goes_on, over}
use Rattle.client_work.proofs.Fetches.{refused, was_fetched}

module _ (mission : Mission) (whose : ClientCommand) where
  -- a command with one part
  pub one_part : (command : Command) (first : Reply) (pass : PassView) (steps : ℕ) →
      ((branch : List ℕ) → command ≡ Simulate branch → ⊥) → ((branch : List ℕ) → command ≡ Schedule branch → ⊥) →
      ((branch : List ℕ) → command ≡ Expand branch → ⊥) → ((target source base : List ℕ) → command ≡ Merge target source base → ⊥) →
      IsCarriedOn (begun_with mission whose command (first ∷ [])) (work_state_at pass steps) (work_state_at pass steps) (answer.Reply first)
  one_part (New branch) first pass steps a b c d = over mission whose (New branch) steps steps (answer.Reply first) (first ∷ []) pass 0 refl tt tt refl
  one_part (Fork branch source) first pass steps a b c d = over mission whose (Fork branch source) steps steps (answer.Reply first) (first ∷ []) pass 0 refl tt tt refl
  one_part (Drop branch) first pass steps a b c d = over mission whose (Drop branch) steps steps (answer.Reply first) (first ∷ []) pass 0 refl tt tt refl
  one_part (Edit branch edit) first pass steps a b c d = over mission whose (Edit branch edit) steps steps (answer.Reply first) (first ∷ []) pass 0 refl tt tt refl
  one_part (Migrate branch model) first pass steps a b c d = over mission whose (Migrate branch model) steps steps (answer.Reply first) (first ∷ []) pass 0 refl tt tt refl
  one_part (Show branch) first pass steps a b c d = over mission whose (Show branch) steps steps (answer.Reply first) (first ∷ []) pass 0 refl tt tt refl
  one_part (Simulate branch) first pass steps a b c d = absurd (a branch refl)
  one_part (Schedule branch) first pass steps a b c d = absurd (b branch refl)
  one_part (Expand branch) first pass steps a b c d = absurd (c branch refl)
  one_part (Merge target source base) first pass steps a b c d = absurd (d target source base refl)

  -- a report of no branch
  pub no_report : (branch : List ℕ) (first refusal : Reply) (pass : PassView) (steps : ℕ) → fetched_by first ≡ Err refusal →
      IsCarriedOn (begun_with mission whose (Simulate branch) (first ∷ [])) (work_state_at pass steps) (work_state_at pass steps) (answer.Reply refusal)
  no_report branch first refusal pass steps e =
      let is = refused first refusal e in
      over mission whose (Simulate branch) steps steps (answer.Reply refusal) (first ∷ []) pass 0 (is.none _) (omega arith, λ rise by. omega (arith, by)) (is.paid mission)
      (ap answer.Reply is.same ∙ sym (is.told _))

  -- commands for the spans of no branch
  pub no_sequence : (branch : List ℕ) (first refusal : Reply) (pass : PassView) (steps : ℕ) → fetched_by first ≡ Err refusal →
      IsCarriedOn (begun_with mission whose (Expand branch) (first ∷ [])) (work_state_at pass steps) (work_state_at pass steps) (answer.Reply refusal)
  no_sequence branch first refusal pass steps e =
      let is = refused first refusal e in
      over mission whose (Expand branch) steps steps (answer.Reply refusal) (first ∷ []) pass 0 (is.none _) tt tt (ap answer.Reply is.same ∙ sym (is.told _))

  -- a schedule of no branch
  pub no_schedule : (branch : List ℕ) (first refusal : Reply) (pass : PassView) (steps : ℕ) → fetched_by first ≡ Err refusal →
      IsCarriedOn (begun_with mission whose (Schedule branch) (first ∷ [])) (work_state_at pass steps) (work_state_at pass steps) (answer.Reply refusal)
  no_schedule branch first refusal pass steps e =
      let is = refused first refusal e in
      over mission whose (Schedule branch) steps steps (answer.Reply refusal) (first ∷ []) pass 0 (is.none _) tt tt (ap answer.Reply is.same ∙ sym (is.told _))

  module _ (target source base : List ℕ) (pass : PassView) where
    -- a merge of which no target, no source or no base is there
    pub no_target : (first refusal : Reply) → fetched_by first ≡ Err refusal →
        IsMergeCarriedOn (begun_with mission whose (Merge target source base) (first ∷ [])) pass pass (answer.Reply refusal)
    no_target first refusal e steps_before steps_after =
        let is = refused first refusal e in
        over mission whose (Merge target source base) steps_before steps_after (answer.Reply refusal) (first ∷ []) pass 0 (is.none _) tt tt (ap answer.Reply is.same ∙ sym (is.told _))

    pub no_source : (target_found : FetchedBranch) (second refusal : Reply) → fetched_by second ≡ Err refusal →
        IsMergeCarriedOn (begun_with mission whose (Merge target source base) (reply_with target_found ∷ second ∷ [])) pass pass (answer.Reply refusal)
    no_source target_found second refusal e steps_before steps_after =
        let is = refused second refusal e in
        over mission whose (Merge target source base) steps_before steps_after (answer.Reply refusal) (reply_with target_found ∷ second ∷ []) pass 0 (is.none _) tt tt
        (ap answer.Reply is.same ∙ sym (is.told _))

    pub no_base : (target_found source_found : FetchedBranch) (third refusal : Reply) → fetched_by third ≡ Err refusal →
        IsMergeCarriedOn (begun_with mission whose (Merge target source base) (reply_with target_found ∷ reply_with source_found ∷ third ∷ [])) pass pass (answer.Reply refusal)
    no_base target_found source_found third refusal e steps_before steps_after =
        let is = refused third refusal e in
        over mission whose (Merge target source base) steps_before steps_after (answer.Reply refusal) (reply_with target_found ∷ reply_with source_found ∷ third ∷ []) pass 0 (is.none _) tt tt
        (ap answer.Reply is.same ∙ sym (is.told _))

    module _ (target_found source_found base_found : FetchedBranch) where
      -- a merge of plans of several models
      pub other_model : are_of_one_model base_found.plan source_found.plan target_found.plan ≡ false →
          IsMergeCarriedOn (begun_with mission whose (Merge target source base) (reply_with target_found ∷ reply_with source_found ∷ reply_with base_found ∷ [])) pass pass answer.OtherModel
      other_model alike steps_before steps_after =
          over mission whose (Merge target source base) steps_before steps_after answer.OtherModel (reply_with target_found ∷ reply_with source_found ∷ reply_with base_found ∷ []) pass 0
          (ap (λ (one : Bool). place_merged target target_found.revision (if one then plan_if_merged (merge_of base_found.plan source_found.plan target_found.plan) else None)) alike) tt tt
          (sym (ap (λ (one : Bool). if one then merged_or_refused (merge_of base_found.plan source_found.plan target_found.plan) reply.NoBranch else answer.OtherModel) alike))

      -- one that is refused
      pub no_merge : (error : MergeError) → are_of_one_model base_found.plan source_found.plan target_found.plan ≡ true →
          merge_of base_found.plan source_found.plan target_found.plan ≡ Err error →
          IsMergeCarriedOn (begun_with mission whose (Merge target source base) (reply_with target_found ∷ reply_with source_found ∷ reply_with base_found ∷ [])) pass pass (answer.MergeRefused error)
      no_merge error alike made steps_before steps_after =
          over mission whose (Merge target source base) steps_before steps_after (answer.MergeRefused error) (reply_with target_found ∷ reply_with source_found ∷ reply_with base_found ∷ []) pass 0
          (ap (λ (one : Bool). place_merged target target_found.revision (if one then plan_if_merged (merge_of base_found.plan source_found.plan target_found.plan) else None)) alike
          ∙ ap (λ (all : Result Merged MergeError). place_merged target target_found.revision (plan_if_merged all)) made) tt tt
          (sym (ap (λ (one : Bool). if one then merged_or_refused (merge_of base_found.plan source_found.plan target_found.plan) reply.NoBranch else answer.OtherModel) alike
          ∙ ap (λ (all : Result Merged MergeError). merged_or_refused all reply.NoBranch) made))

  -- ---- merges that go on

  module _ (target source base : List ℕ) (before middle after : PassView) (told : Answer) where
    -- with a Fetch of the source
    pub with_source : (first second : Reply) (target_found : FetchedBranch) → fetched_by first ≡ Ok target_found →
        HasOneMore before middle (entry_of whose 1 (action.Fetch source)) second →
        IsMergeCarriedOn (begun_with mission whose (Merge target source base) (reply_with target_found ∷ second ∷ [])) middle after told →
        IsMergeCarriedOn (begun_with mission whose (Merge target source base) (first ∷ [])) before after told
    with_source first second target_found e one rest =
        subst (λ (said : Reply). IsMergeCarriedOn (begun_with mission whose (Merge target source base) (said ∷ [])) before after told) (sym (was_fetched first target_found e))
        (λ steps_before steps_after.
        goes_on mission whose (Merge target source base) steps_before steps_after told (reply_with target_found ∷ []) before middle after (action.Fetch source) second refl one
        (rest steps_before steps_after))

    -- with one of the base
    pub with_base : (second third : Reply) (target_found source_found : FetchedBranch) → fetched_by second ≡ Ok source_found →
        HasOneMore before middle (entry_of whose 2 (action.Fetch base)) third →
        IsMergeCarriedOn (begun_with mission whose (Merge target source base) (reply_with target_found ∷ reply_with source_found ∷ third ∷ [])) middle after told →
        IsMergeCarriedOn (begun_with mission whose (Merge target source base) (reply_with target_found ∷ second ∷ [])) before after told
    with_base second third target_found source_found e one rest =
        subst (λ (said : Reply). IsMergeCarriedOn (begun_with mission whose (Merge target source base) (reply_with target_found ∷ said ∷ [])) before after told) (sym (was_fetched second source_found e))
        (λ steps_before steps_after.
        goes_on mission whose (Merge target source base) steps_before steps_after told (reply_with target_found ∷ reply_with source_found ∷ []) before middle after (action.Fetch base) third refl one
        (rest steps_before steps_after))
