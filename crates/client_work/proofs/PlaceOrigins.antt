-- Each plan that is placed in a journal that fits was made of the branch's plan, which was fetched before.
use Rattle.std.proofs.Common.{◌≡◌, ◌⊎◌, inl, inr, ℕ, ◌+◌, Bool, true, false, List, [], ◌∷◌, ◌++◌, length, map, append_assoc, append-nil, slice_get, Option, Some, None, refl, sym, ap, ◌∙◌, subst}
use Rattle.std.specs.List.{filter}
use Rattle.std.specs.Prelude.{cond}
use Rattle.std.proofs.lemmas.Bool.{eq-eqb}
use Rattle.std.proofs.lemmas.List.Elements.{filter-append}
use Rattle.aerie_base.specs.declared.plans.Plan.{Plan}
use Rattle.run_data.specs.KeptRuns.{KeptRun}
use Rattle.hangar_core.specs.declared.actions.Action.{Action}
use Rattle.hangar_core.specs.declared.actions.Action.TheVariants as action
use Rattle.commands.specs.declared.commands.Command.{Command}
use Rattle.commands.specs.declared.commands.Command.TheVariants.{New, Fork, Drop, Edit, Migrate, Show, Simulate, Schedule, Merge, Expand}
use Rattle.hangar_core.specs.declared.entries.Entry.{Entry}
use Rattle.hangar_core.specs.declared.replies.Reply.{Reply}
use Rattle.hangar_core.specs.declared.replies.Reply.TheVariants as reply
use Rattle.hangar_core.specs.declared.workspaces.Workspace.{Workspace}
use Rattle.hangar_core.specs.Commands.{first_action}
use Rattle.hangar_core.specs.Fits.{Fits, IsCommand, IsWorkOf, Meanings, attach_next, commands_of, is_of_client, merge_next, next_action, on_fetched, place_merged, place_next}
use Rattle.hangar_core.specs.Journals.{Entries}
use Rattle.client_work.proofs.EditedIds.{GoesOn}

abbrev pub Told : Type 0
Told = Entry × Reply

-- what commands make of a plan goes on from the plan in whose place it comes
pub record MeaningsGoOn (meanings : Meanings) : Type 0 where
  pub scheduled : (plan : Plan) → GoesOn plan (meanings.scheduled plan)
  pub merged : (base source target plan : Plan) → meanings.merged base source target ≡ Some plan → GoesOn target plan

-- ---- replies

record IsFetched (told : Reply) (next : ℕ → Plan → Option Action) (made : Action) : Type 0 where
  revision : ℕ
  plan : Plan
  kept : Option KeptRun
  is : told ≡ reply.Fetched revision plan kept
  makes : next revision plan ≡ Some made

was_fetched : (told : Reply) (next : ℕ → Plan → Option Action) (made : Action) → on_fetched told next ≡ Some made → IsFetched told next made
was_fetched (reply.Fetched revision plan kept) next made e = record { revision = revision; plan = plan; kept = kept; is = refl; makes = e }
was_fetched (reply.Opened revision) next made e = absurd (cc)
was_fetched reply.Dropped next made e = absurd (cc)
was_fetched (reply.Added id revision) next made e = absurd (cc)
was_fetched (reply.Edited revision) next made e = absurd (cc)
was_fetched (reply.Loaded first count revision) next made e = absurd (cc)
was_fetched reply.Attached next made e = absurd (cc)
was_fetched (reply.Placed revision) next made e = absurd (cc)
was_fetched reply.NoBranch next made e = absurd (cc)
was_fetched reply.BranchExists next made e = absurd (cc)
was_fetched reply.TooManyBranches next made e = absurd (cc)
was_fetched reply.NoMapping next made e = absurd (cc)
was_fetched (reply.Unmapped id) next made e = absurd (cc)
was_fetched (reply.Misfit id number) next made e = absurd (cc)
was_fetched (reply.Edit refusal) next made e = absurd (cc)
was_fetched (reply.Stale seen now) next made e = absurd (cc)

-- ---- what a command does next

-- the first reply was of a Fetch of the branch, at the revision that was seen, and the new plan goes on from the one that was fetched
record IsAfterFetch (command : Command) (replies : List Reply) (branch : List ℕ) (seen : ℕ) (plan : Plan) : Type 0 where
  old : Plan
  kept : Option KeptRun
  later : List Reply
  first : replies ≡ reply.Fetched seen old kept ∷ later
  fetches : first_action command ≡ action.Fetch branch
  goes_on : GoesOn old plan

module _ (meanings : Meanings) (go_on : MeaningsGoOn meanings) where
  -- an Attach places nothing
  attaches : (on : List ℕ) (first : Reply) (later : List Reply) (branch : List ℕ) (seen : ℕ) (plan : Plan) →
      attach_next meanings on first later ≡ Some (action.Place branch seen plan) → ⊥
  attaches on first [] branch seen plan e =
      let was = was_fetched first _ (action.Place branch seen plan) e in
      let same : Some (action.Attach on (meanings.simulated was.plan)) ≡ Some (action.Place branch seen plan) = was.makes in absurd (cc)
  attaches on first (next ∷ later) branch seen plan e = absurd (cc)

  scheduled_from : (on : List ℕ) (first : Reply) (later : List Reply) (branch : List ℕ) (seen : ℕ) (plan : Plan) →
      place_next meanings on first later ≡ Some (action.Place branch seen plan) → IsAfterFetch (Schedule on) (first ∷ later) branch seen plan
  scheduled_from on first [] branch seen plan e =
      let was = was_fetched first _ (action.Place branch seen plan) e in
      let same : Some (action.Place on was.revision (meanings.scheduled was.plan)) ≡ Some (action.Place branch seen plan) = was.makes in
      let name : on ≡ branch = cc in
      let revision : was.revision ≡ seen = cc in
      let made : meanings.scheduled was.plan ≡ plan = cc in record {
        old = was.plan;
        kept = was.kept;
        later = [];
        first = ap (λ (r : Reply). r ∷ []) (was.is ∙ ap (λ (r : ℕ). reply.Fetched r was.plan was.kept) revision);
        fetches = ap action.Fetch name;
        goes_on = subst (GoesOn was.plan) made (go_on.scheduled was.plan);
      }
  scheduled_from on first (next ∷ later) branch seen plan e = absurd (cc)

  -- the merged plan, if there is one, is placed
  merged_is : (target : List ℕ) (revision : ℕ) (made : Option Plan) (branch : List ℕ) (seen : ℕ) (plan : Plan) →
      place_merged target revision made ≡ Some (action.Place branch seen plan) → (target ≡ branch) × (revision ≡ seen) × (made ≡ Some plan)
  merged_is target revision None branch seen plan e = absurd (cc)
  merged_is target revision (Some one) branch seen plan e =
      let name : target ≡ branch = cc in
      let same : revision ≡ seen = cc in
      let made : Some one ≡ Some plan = cc in
      (name, same, made)

  no_fetch : (on : List ℕ) (told : Reply) (branch : List ℕ) (seen : ℕ) (plan : Plan) → on_fetched told (λ _ _. Some (action.Fetch on)) ≡ Some (action.Place branch seen plan) → ⊥
  no_fetch on told branch seen plan e =
      let was = was_fetched told (λ _ _. Some (action.Fetch on)) (action.Place branch seen plan) e in
      let same : Some (action.Fetch on) ≡ Some (action.Place branch seen plan) = was.makes in absurd (cc)

  merged_from : (target source base : List ℕ) (first : Reply) (later : List Reply) (branch : List ℕ) (seen : ℕ) (plan : Plan) →
      merge_next meanings target source base first later ≡ Some (action.Place branch seen plan) → IsAfterFetch (Merge target source base) (first ∷ later) branch seen plan
  merged_from target source base first [] branch seen plan e = absurd (no_fetch source first branch seen plan e)
  merged_from target source base first (second ∷ []) branch seen plan e = absurd (no_fetch base second branch seen plan e)
  merged_from target source base first (second ∷ third ∷ []) branch seen plan e =
      let one = was_fetched first _ (action.Place branch seen plan) e in
      let two = was_fetched second _ (action.Place branch seen plan) one.makes in
      let three = was_fetched third _ (action.Place branch seen plan) two.makes in
      let is = merged_is target one.revision (meanings.merged three.plan two.plan one.plan) branch seen plan three.makes in record {
        old = one.plan;
        kept = one.kept;
        later = second ∷ third ∷ [];
        first = ap (λ (r : Reply). r ∷ second ∷ third ∷ []) (one.is ∙ ap (λ (r : ℕ). reply.Fetched r one.plan one.kept) is.1);
        fetches = ap action.Fetch is.0;
        goes_on = go_on.merged three.plan two.plan one.plan plan is.2;
      }
  merged_from target source base first (second ∷ third ∷ fourth ∷ later) branch seen plan e = absurd (cc)

  placed_from : (command : Command) (replies : List Reply) (branch : List ℕ) (seen : ℕ) (plan : Plan) →
      next_action meanings command replies ≡ Some (action.Place branch seen plan) → IsAfterFetch command replies branch seen plan
  placed_from (New on) [] branch seen plan e = absurd (cc)
  placed_from (Fork on source) [] branch seen plan e = absurd (cc)
  placed_from (Drop on) [] branch seen plan e = absurd (cc)
  placed_from (Edit on edit) [] branch seen plan e = absurd (cc)
  placed_from (Migrate on model) [] branch seen plan e = absurd (cc)
  placed_from (Show on) [] branch seen plan e = absurd (cc)
  placed_from (Simulate on) [] branch seen plan e = absurd (cc)
  placed_from (Schedule on) [] branch seen plan e = absurd (cc)
  placed_from (Merge target source base) [] branch seen plan e = absurd (cc)
  placed_from (Expand on) [] branch seen plan e = absurd (cc)
  placed_from (New on) (first ∷ later) branch seen plan e = absurd (cc)
  placed_from (Fork on source) (first ∷ later) branch seen plan e = absurd (cc)
  placed_from (Drop on) (first ∷ later) branch seen plan e = absurd (cc)
  placed_from (Edit on edit) (first ∷ later) branch seen plan e = absurd (cc)
  placed_from (Migrate on model) (first ∷ later) branch seen plan e = absurd (cc)
  placed_from (Show on) (first ∷ later) branch seen plan e = absurd (cc)
  placed_from (Simulate on) (first ∷ later) branch seen plan e = absurd (attaches on first later branch seen plan e)
  placed_from (Schedule on) (first ∷ later) branch seen plan e = scheduled_from on first later branch seen plan e
  placed_from (Merge target source base) (first ∷ later) branch seen plan e = merged_from target source base first later branch seen plan e
  placed_from (Expand on) (first ∷ later) branch seen plan e = absurd (attaches on first later branch seen plan e)

  -- ---- the entries of a command

  -- among some entries one fetched the branch at the revision that was seen, and the new plan goes on from the one that was fetched
  pub record IsOrigin (entries : Entries) (branch : List ℕ) (seen : ℕ) (plan : Plan) : Type 0 where
    pub front : Entries
    pub fetch : Told
    pub back : Entries
    pub there : entries ≡ front ++ fetch ∷ back
    pub fetches : fetch.0.action ≡ action.Fetch branch
    pub old : Plan
    pub kept : Option KeptRun
    pub told : fetch.1 ≡ reply.Fetched seen old kept
    pub goes_on : GoesOn old plan

  abbrev answers : Entries → List Reply
  answers entries = map (λ (x : Told). x.1) entries

  -- what a command does behind some of its entries is next by their replies
  next_behind : (client number : ℕ) (command : Command) (replies : List Reply) (front back : Entries) (x : Told) → IsCommand meanings client number command replies (front ++ x ∷ back) →
      next_action meanings command (replies ++ answers front) ≡ Some x.0.action
  next_behind client number command replies [] back x is = ap (next_action meanings command) (append-nil replies) ∙ is.0
  next_behind client number command replies (first ∷ front) back x is =
      ap (next_action meanings command) (sym (append_assoc replies (first.1 ∷ []) (answers front)))
      ∙ next_behind client number command (replies ++ first.1 ∷ []) front back x is.2

  of_command : (client number : ℕ) (command : Command) (front back : Entries) (x : Told) (branch : List ℕ) (seen : ℕ) (plan : Plan) → x.0.action ≡ action.Place branch seen plan →
      IsCommand meanings client number command [] (front ++ x ∷ back) → IsOrigin front branch seen plan
  of_command client number command [] back x branch seen plan places is =
      let from = placed_from command [] branch seen plan (is.0 ∙ ap Some places) in
      let none : [] ≡ reply.Fetched seen from.old from.kept ∷ from.later = from.first in absurd (cc)
  of_command client number command (first ∷ front) back x branch seen plan places is =
      let from = placed_from command (first.1 ∷ answers front) branch seen plan (next_behind client number command [] (first ∷ front) back x is ∙ ap Some places) in
      let same : first.1 ∷ answers front ≡ reply.Fetched seen from.old from.kept ∷ from.later = from.first in
      let own : Some (first_action command) ≡ Some first.0.action = is.0 in
      let action_is : first_action command ≡ first.0.action = cc in
      let told : first.1 ≡ reply.Fetched seen from.old from.kept = cc in record {
        front = [];
        fetch = first;
        back = front;
        there = refl;
        fetches = sym action_is ∙ from.fetches;
        old = from.old;
        kept = from.kept;
        told = told;
        goes_on = from.goes_on;
      }

  -- ---- the entries of a client

  -- what stands in one of two lists stands in the first or in the second
  split_at : (own rest front back : Entries) (x : Told) → own ++ rest ≡ front ++ x ∷ back →
      ((mid : Entries) × (own ≡ front ++ x ∷ mid)) ⊎ ((mid : Entries) × (front ≡ own ++ mid) × (rest ≡ mid ++ x ∷ back))
  split_at [] rest front back x e = inr (front, refl, e)
  split_at (first ∷ own) rest [] back x e = let same : first ≡ x = cc in inl (own, ap (λ (y : Told). y ∷ own) same)
  split_at (first ∷ own) rest (other ∷ front) back x e =
      let same : first ≡ other = cc in
      let less : own ++ rest ≡ front ++ x ∷ back = cc in
      by same (split_at own rest front back x less)
    where
      by : first ≡ other → ((mid : Entries) × (own ≡ front ++ x ∷ mid)) ⊎ ((mid : Entries) × (front ≡ own ++ mid) × (rest ≡ mid ++ x ∷ back)) →
          ((mid : Entries) × (first ∷ own ≡ other ∷ (front ++ x ∷ mid))) ⊎ ((mid : Entries) × (other ∷ front ≡ first ∷ (own ++ mid)) × (rest ≡ mid ++ x ∷ back))
      by same (inl one) = inl (one.0, λ i. same i ∷ one.1 i)
      by same (inr two) = inr (two.0, λ i. sym same i ∷ two.1 i, two.2)

  later_origin : (own mid front : Entries) (branch : List ℕ) (seen : ℕ) (plan : Plan) → front ≡ own ++ mid → IsOrigin mid branch seen plan → IsOrigin front branch seen plan
  later_origin own mid front branch seen plan e is = record {
    front = own ++ is.front;
    fetch = is.fetch;
    back = is.back;
    there = e ∙ ap (λ (entries : Entries). own ++ entries) is.there ∙ sym (append_assoc own is.front (is.fetch ∷ is.back));
    fetches = is.fetches;
    old = is.old;
    kept = is.kept;
    told = is.told;
    goes_on = is.goes_on;
  }

  of_work : (client number : ℕ) (commands : List Command) (front back : Entries) (x : Told) (branch : List ℕ) (seen : ℕ) (plan : Plan) → x.0.action ≡ action.Place branch seen plan →
      IsWorkOf meanings client number commands (front ++ x ∷ back) → IsOrigin front branch seen plan
  of_work client number [] [] back x branch seen plan places is = absurd (cc)
  of_work client number [] (first ∷ front) back x branch seen plan places is = absurd (cc)
  of_work client number (command ∷ commands) front back x branch seen plan places is =
      by (split_at is.0 is.1 front back x (sym is.2)) (λ mid rest. of_work client (number + 1) commands mid back x branch seen plan places rest)
    where
      by : ((mid : Entries) × (is.0 ≡ front ++ x ∷ mid)) ⊎ ((mid : Entries) × (front ≡ is.0 ++ mid) × (is.1 ≡ mid ++ x ∷ back)) →
          ((mid : Entries) → IsWorkOf meanings client (number + 1) commands (mid ++ x ∷ back) → IsOrigin mid branch seen plan) → IsOrigin front branch seen plan
      by (inl one) others =
          of_command client number command front one.0 x branch seen plan places (subst (IsCommand meanings client number command []) one.1 is.3)
      by (inr two) others =
          later_origin is.0 two.0 front branch seen plan two.1 (others two.0 (subst (IsWorkOf meanings client (number + 1) commands) two.2 is.4))

  -- ---- the entries of all clients

  -- what stands in a part of a list stands in the list
  unfiltered : (test : Told → Bool) (entries front back : Entries) (x : Told) → filter test entries ≡ front ++ x ∷ back →
      (before : Entries) × (after : Entries) × (entries ≡ before ++ x ∷ after)
  unfiltered test [] [] back x e = absurd (cc)
  unfiltered test [] (first ∷ front) back x e = absurd (cc)
  unfiltered test (entry ∷ entries) front back x e = by (test entry) e (λ front. unfiltered test entries front back x)
    where
      by : (passes : Bool) → cond passes (entry ∷ filter test entries) (filter test entries) ≡ front ++ x ∷ back →
          ((front : Entries) → filter test entries ≡ front ++ x ∷ back → (before : Entries) × (after : Entries) × (entries ≡ before ++ x ∷ after)) →
          (before : Entries) × (after : Entries) × (entry ∷ entries ≡ before ++ x ∷ after)
      by false e others = let found = others front e in (entry ∷ found.0, found.1, ap (λ (rest : Entries). entry ∷ rest) found.2)
      by true e others = at front e others
        where
          at : (front : Entries) → entry ∷ filter test entries ≡ front ++ x ∷ back →
              ((front : Entries) → filter test entries ≡ front ++ x ∷ back → (before : Entries) × (after : Entries) × (entries ≡ before ++ x ∷ after)) →
              (before : Entries) × (after : Entries) × (entry ∷ entries ≡ before ++ x ∷ after)
          at [] e others = let same : entry ≡ x = cc in ([], entries, ap (λ (y : Told). y ∷ entries) same)
          at (first ∷ front) e others =
              let less : filter test entries ≡ front ++ x ∷ back = cc in
              let found = others front less in
              (entry ∷ found.0, found.1, ap (λ (rest : Entries). entry ∷ rest) found.2)

  seam : (front back : Entries) (x : Told) → slice_get (front ++ x ∷ back) (length front) ≡ Some x
  seam [] back x = refl
  seam (first ∷ front) back x = seam front back x

  pub place_origin : (first : Workspace) (clients : List (List Command)) (front back : Entries) (x : Told) (branch : List ℕ) (seen : ℕ) (plan : Plan) →
      x.0.action ≡ action.Place branch seen plan → Fits meanings first clients (front ++ x ∷ back) → IsOrigin front branch seen plan
  place_origin first clients front back x branch seen plan places fits =
      let client = x.0.client in
      let test = is_of_client client in
      let own : filter test (front ++ x ∷ back) ≡ filter test front ++ x ∷ filter test back = rw (filter-append test front (x ∷ back), eq-eqb client client refl) refl in
      let origin =
      of_work client 0 (commands_of client clients) (filter test front) (filter test back) x branch seen plan places
      (subst (IsWorkOf meanings client 0 (commands_of client clients)) own (fits.works client (fits.no_other (length front) x (seam front back x)))) in
      let there = unfiltered test front origin.front origin.back origin.fetch origin.there in record {
        front = there.0;
        fetch = origin.fetch;
        back = there.1;
        there = there.2;
        fetches = origin.fetches;
        old = origin.old;
        kept = origin.kept;
        told = origin.told;
        goes_on = origin.goes_on;
      }
