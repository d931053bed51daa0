-- What the workspace's functions leave.
use Rattle.std.proofs.Common.{◌≡◌, ℕ, zero, suc, ◌<◌, ◌≤◌, ◌^◌, Bool, true, false, IsTrue, List, [], ◌∷◌, ◌++◌, length, map, cond, find, filter, remove, Option, Some, None, Result, Ok, Err, is_some, nat_lt, refl, sym, ap, ◌∙◌, subst, slice_get, arith, if◌then◌else◌, ltb-true, length-append}
use Rattle.std.specs.Prelude.{set, IfOk, slice_index_or}
use Rattle.std.proofs.lemmas.Option.{slice_get_read}
use Rattle.std.specs.List.{AllByRecursion}
use Rattle.std.specs.Map.{lookup}
use Rattle.aerie_base.specs.declared.memory.OutOfMemory.{OutOfMemory}
use Rattle.aerie_base.specs.declared.models.model.Parts.{Parts}
use Rattle.aerie_base.specs.declared.plans.Plan.{Plan}
use Rattle.aerie_base.specs.models.Names.{are_distinct}
use Rattle.aerie_base.specs.plans.OfModel.{IsPlanOf}
use Rattle.plan_edit.specs.declared.mappings.Mapping.{Mapping}
use Rattle.commands.specs.SessionModels.{empty_plan}
use Rattle.hangar_core.specs.declared.branches.Branch.{Branch}
use Rattle.hangar_core.specs.declared.changes.BranchChange.{BranchChange}
use Rattle.hangar_core.specs.declared.replies.Reply.{Reply}
use Rattle.hangar_core.specs.declared.replies.Reply.TheVariants as reply
use Rattle.hangar_core.specs.declared.workspaces.Workspace.{Workspace}
use Rattle.hangar_core.specs.Edits.{change_of, IsMadeAt, IsMadeWhere, IsRevisionOf}
use Rattle.hangar_core.specs.Opening.{dropped_where, has_other_name, IsForkOf, LastRevisions, refusal_to_open, remembered}
use Rattle.hangar_core.specs.ValidWorkspaces.{AreRevisionsWithin, IsBranchIn, IsChangeOn, IsWorkspace, MayChange, branch_names}
use Rattle.hangar_core.specs.Workspaces.{Answered, branch_limit, branch_named, has_name, on_branch, on_found, put_where_named}
use Rattle.hangar_core.proofs.Plain.{none_some, some_same}
use Rattle.hangar_core.proofs.Positions.{left_is_removed, put_is_set}
use Rattle.hangar_core.proofs.Standings.{all_added, all_get, all_removed, all_set, distinct_opened, distinct_removed, names_set}
use Rattle.hangar_core.proofs.Histories.{free_name}

abbrev answered : Reply → Workspace → Answered
answered told w = (told, w)

pub few_last : (p : List ℕ → Bool) (dropped : LastRevisions) (last : ℕ) → AllByRecursion (λ l. l.1 < 2 ^ 63) dropped → lookup p dropped ≡ Some last → last < 2 ^ 63
few_last p [] last h e = absurd (none_some None last refl e)
few_last p (x ∷ xs) last h e = go (p x.0) e (few_last p xs last h.1)
  where
    go : (r : Bool) → cond r (Some x.1) (lookup p xs) ≡ Some last → (lookup p xs ≡ Some last → last < 2 ^ 63) → last < 2 ^ 63
    go true k more = subst (λ (n : ℕ). n < 2 ^ 63) (some_same (Some x.1) x.1 last refl k) h.0
    go false k more = more k

-- ---- a branch more

room : (w : Workspace) (name : List ℕ) → refusal_to_open w name ≡ None → length w.branches < branch_limit
room w name e = go (is_some (branch_named w name)) (nat_lt (length w.branches) branch_limit) refl e
  where
    go : (there roomy : Bool) → nat_lt (length w.branches) branch_limit ≡ roomy →
        (if there then Some reply.BranchExists else if roomy then None else Some reply.TooManyBranches) ≡ None → length w.branches < branch_limit
    go true roomy f k = absurd (none_some (Some reply.BranchExists) reply.BranchExists k refl)
    go false true f k = ltb-true _ _ f
    go false false f k = absurd (none_some (Some reply.TooManyBranches) reply.TooManyBranches k refl)

pub added_stands : (w : Workspace) (branch : Branch) (branches : List Branch) → IsWorkspace w → refusal_to_open w branch.name ≡ None →
    IsBranchIn w.models w.duration branch → branches ≡ w.branches ++ branch ∷ [] → IsWorkspace (record w { branches = branches })
added_stands w branch branches h free stands e =
    subst (λ bs. IsWorkspace (record w { branches = bs })) (sym e) record {
      among = h.among;
      lasts = h.lasts;
      few = let l = room w branch.name free in let m = length-append w.branches (branch ∷ []) in omega (arith, l, m);
      names = distinct_opened w.branches branch h.names (free_name w branch.name free);
      branches = all_added (IsBranchIn w.models w.duration) w.branches branch h.branches stands;
    }

first_of : {X : Type 0} (xs : List X) → 1 ≤ length xs → (x : X) × (slice_get xs 0 ≡ Some x)
first_of [] h = absurd (omega (arith, h))
first_of (x ∷ xs) h = (x, refl)

empty_is : (model : Parts) (duration : ℕ) → 1 ≤ duration → IsPlanOf model (empty_plan duration)
empty_is model duration h = record {
  duration = h;
  count = omega arith;
  next_id = omega arith;
  ids = refl;
  directives = refl;
  anchors = λ id steps e. none_some None id refl e;
}

pub empty_stands : (w : Workspace) → IsWorkspace w → (name : List ℕ) (revision : ℕ) (plan : Plan) → plan ≡ empty_plan w.duration →
    IsBranchIn w.models w.duration (record { name = name; revision = revision; plan = plan; kept = None })
empty_stands w h name revision plan e =
    subst (λ p. IsBranchIn w.models w.duration (record { name = name; revision = revision; plan = p; kept = None })) (sym e)
    (let first = first_of w.models h.among.some_model in record {
      plan = record { among = record { model = first.0; place = first.1; of_model = empty_is first.0 w.duration h.lasts }; lasts = refl };
      kept = tt;
    })

pub forked_stands : (models : List Parts) (duration : ℕ) (branches : List Branch) (at : ℕ) (branch : Branch) (name : List ℕ) (revision : ℕ) →
    AllByRecursion (IsBranchIn models duration) branches → IsForkOf branch name revision (slice_get branches at) → IsBranchIn models duration branch
forked_stands models duration branches at branch name revision h f = go (slice_get branches at) refl f
  where
    go : (source : Option Branch) → slice_get branches at ≡ source → IsForkOf branch name revision source → IsBranchIn models duration branch
    go None e k = absurd k
    go (Some source) e k =
        let of = all_get (IsBranchIn models duration) branches at source h e in
        subst (IsBranchIn models duration) (sym k) record { plan = of.plan; kept = of.kept }

-- ---- a branch less

read_at : {X : Type 0} (xs : List X) (at : ℕ) → at < length xs → (x : X) × (slice_get xs at ≡ Some x)
read_at [] at l = absurd (omega (arith, l))
read_at (x ∷ xs) zero l = (x, refl)
read_at (x ∷ xs) (suc at) l = read_at xs at (omega (arith, l))

pub dropped_made : (w : Workspace) (name : List ℕ) (at revision : ℕ) (branches : List Branch) (dropped : LastRevisions) → IsWorkspace w →
    slice_get w.branches at ≡ branch_named w name → at < length w.branches → IsRevisionOf revision (slice_get w.branches at) →
    branches ≡ remove w.branches at → dropped ≡ remembered w.dropped name revision →
    ◌≡◌ {A = Answered} (reply.Dropped, record w { branches = branches; dropped = dropped }) (dropped_where w name (slice_get w.branches at))
dropped_made w name at revision branches dropped h found l r e f =
    let read = read_at w.branches at l in
    let same : revision ≡ read.0.revision = subst (IsRevisionOf revision) read.1 r in
    let left : branches ≡ filter (has_other_name name) w.branches = e ∙ sym (left_is_removed name w.branches at h.names l found) in
    let last : dropped ≡ remembered w.dropped name read.0.revision = f ∙ ap (remembered w.dropped name) same in
    ap (λ (bs : List Branch). answered reply.Dropped (record w { branches = bs; dropped = dropped })) left
    ∙ ap (λ (ds : LastRevisions). answered reply.Dropped (record w { branches = filter (has_other_name name) w.branches; dropped = ds })) last
    ∙ sym (ap (dropped_where w name) read.1)

shorter : {X : Type 0} (xs : List X) (at : ℕ) → length (remove xs at) ≤ length xs
shorter [] zero = omega arith
shorter [] (suc at) = omega arith
shorter (x ∷ xs) zero = omega arith
shorter (x ∷ xs) (suc at) = let h = shorter xs at in omega (arith, h)

pub dropped_stands : (w : Workspace) (at : ℕ) (branches : List Branch) (dropped : LastRevisions) → IsWorkspace w → branches ≡ remove w.branches at →
    IsWorkspace (record w { branches = branches; dropped = dropped })
dropped_stands w at branches dropped h e =
    subst (λ bs. IsWorkspace (record w { branches = bs; dropped = dropped })) (sym e) record {
      among = h.among;
      lasts = h.lasts;
      few = let l = shorter w.branches at in let m = h.few in omega (arith, l, m);
      names = distinct_removed w.branches at h.names;
      branches = all_removed (IsBranchIn w.models w.duration) w.branches at h.branches;
    }

-- ---- a branch changed

pub may_change : (models : List Parts) (duration : ℕ) (w : Workspace) (at : ℕ) → AllByRecursion (IsBranchIn models duration) w.branches →
    AreRevisionsWithin 9_223_372_036_854_775_807 w → at < length w.branches → MayChange models (slice_get w.branches at)
may_change models duration w at h few l =
    let read = read_at w.branches at l in
    let own = all_get (λ branch. branch.revision ≤ 9_223_372_036_854_775_807) w.branches at read.0 few.branches read.1 in
    subst (MayChange models) (sym read.1) ((all_get (IsBranchIn models duration) w.branches at read.0 h read.1).plan.among, omega (arith, own))

made_on : (w : Workspace) (name : List ℕ) (at : ℕ) (change : BranchChange) (branches : List Branch) (told : Reply) → IsTrue (are_distinct (branch_names w.branches)) →
    at < length w.branches → slice_get w.branches at ≡ branch_named w name → IsMadeAt w.models w.mappings change at w.branches branches told →
    ◌≡◌ {A = Answered} (told, record w { branches = branches }) (on_branch w name (change_of w.models w.mappings change))
made_on w name at change branches told d l found made =
    let read = read_at w.branches at l in
    let of = subst (IsMadeWhere w.models w.mappings change at w.branches branches told) read.1 made in
    let new : Branch = (change_of w.models w.mappings change read.0).1 in
    let put : branches ≡ map (put_where_named name new) w.branches = of.1 ∙ sym (put_is_set name new w.branches at d l found) in
    ap (λ (r : Reply). answered r (record w { branches = branches })) of.0
    ∙ ap (λ (bs : List Branch). answered (change_of w.models w.mappings change read.0).0 (record w { branches = bs })) put
    ∙ sym (ap (on_found w name (change_of w.models w.mappings change)) (sym found ∙ read.1))

pub on_made : (result : Result Reply OutOfMemory) (w : Workspace) (name : List ℕ) (at : ℕ) (change : BranchChange) (branches : List Branch) →
    IsWorkspace w → at < length w.branches → slice_get w.branches at ≡ branch_named w name →
    IfOk result (λ (told : Reply). IsMadeAt w.models w.mappings change at w.branches branches told) →
    IfOk result (λ (told : Reply). ◌≡◌ {A = Answered} (told, record w { branches = branches }) (on_branch w name (change_of w.models w.mappings change)))
on_made (Ok told) w name at change branches h l found made = made_on w name at change branches told h.names l found made
on_made (Err memory) w name at change branches h l found made = tt

same_length : (xs ys : List Branch) → branch_names xs ≡ branch_names ys → length xs ≡ length ys
same_length xs ys e = sym (long xs) ∙ ap length e ∙ long ys
  where
    long : (zs : List Branch) → length (branch_names zs) ≡ length zs
    long [] = refl
    long (z ∷ zs) = ap suc (long zs)

pub on_stands : (w : Workspace) (branches : List Branch) → IsWorkspace w → branch_names branches ≡ branch_names w.branches →
    AllByRecursion (IsBranchIn w.models w.duration) branches → IsWorkspace (record w { branches = branches })
on_stands w branches h names stands = record {
  among = h.among;
  lasts = h.lasts;
  few = let l = same_length branches w.branches names in let m = h.few in omega (arith, l, m);
  names = subst (λ ns. IsTrue (are_distinct ns)) (sym names) h.names;
  branches = stands;
}

-- ---- as the code shows its parts

pub shown_made : (result : Result Reply OutOfMemory) (w : Workspace) (name : List ℕ) (at : ℕ) (change : BranchChange) (branches : List Branch) →
    IsWorkspace w → (models : List Parts) (mappings : List Mapping) (shown : List Branch) → models ≡ w.models → mappings ≡ w.mappings → shown ≡ w.branches →
    at < length shown → slice_get shown at ≡ find (has_name name) shown →
    IfOk result (λ (told : Reply). IsMadeAt models mappings change at w.branches branches told) →
    IfOk result (λ (told : Reply). ◌≡◌ {A = Answered} (told, record w { branches = branches }) (on_branch w name (change_of w.models w.mappings change)))
shown_made result w name at change branches h models mappings shown e f g l found made =
    on_made result w name at change branches h
    (subst (λ (bs : List Branch). at < length bs) g l)
    (subst (λ (bs : List Branch). slice_get bs at ≡ find (has_name name) bs) g found)
    (subst (λ (ms : List Parts). IfOk result (λ (told : Reply). IsMadeAt ms w.mappings change at w.branches branches told)) e
    (subst (λ (mp : List Mapping). IfOk result (λ (told : Reply). IsMadeAt models mp change at w.branches branches told)) f made))

pub shown_stands : (w : Workspace) (branches : List Branch) → IsWorkspace w → (models : List Parts) → models ≡ w.models →
    branch_names branches ≡ branch_names w.branches → (change : BranchChange) → IsChangeOn w.models w.duration change →
    ((duration : ℕ) → IsChangeOn models duration change → AllByRecursion (IsBranchIn models duration) w.branches → AllByRecursion (IsBranchIn models duration) branches) →
    IsWorkspace (record w { branches = branches })
shown_stands w branches h models e names change on stays =
    on_stands w branches h names
    (subst (λ (ms : List Parts). AllByRecursion (IsBranchIn ms w.duration) branches) e
    (stays w.duration (subst (λ (ms : List Parts). IsChangeOn ms w.duration change) (sym e) on)
    (subst (λ (ms : List Parts). AllByRecursion (IsBranchIn ms w.duration) w.branches) (sym e) h.branches)))

pub changed_stays : (models : List Parts) (duration : ℕ) (shown now : List Branch) (at : ℕ) (old new : Branch) → shown ≡ now → at < length now →
    old ≡ slice_index_or shown at old → (IsBranchIn models duration old → IsBranchIn models duration new) →
    AllByRecursion (IsBranchIn models duration) now → AllByRecursion (IsBranchIn models duration) (set shown at new)
changed_stays models duration shown now at old new e l is stays h =
    let all = subst (AllByRecursion (IsBranchIn models duration)) (sym e) h in
    all_set (IsBranchIn models duration) shown at new all
    (stays (all_get (IsBranchIn models duration) shown at old all
    (slice_get_read shown (length shown) at old refl (subst (λ (bs : List Branch). at < length bs) (sym e) l) is)))

pub changed_names : (shown now : List Branch) (at : ℕ) (old new : Branch) → shown ≡ now → at < length now →
    old ≡ slice_index_or shown at old → new.name ≡ old.name → branch_names (set shown at new) ≡ branch_names now
changed_names shown now at old new e l is n =
    names_set shown at old new (slice_get_read shown (length shown) at old refl (subst (λ (bs : List Branch). at < length bs) (sym e) l) is) n
    ∙ ap branch_names e
