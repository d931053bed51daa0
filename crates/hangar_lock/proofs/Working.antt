-- What an act leaves of the workspace and the journal, and what the pass is told.
use Rattle.std.proofs.Common.{◌≡◌, ◌≤◌, List, [], ◌∷◌, ◌++◌, length, Result, Ok, Err, IfOk, OnErr, refl, sym, ap, ◌∙◌, subst}
use Rattle.std.specs.List.{AllByRecursion}
use Rattle.aerie_base.specs.declared.memory.OutOfMemory.{OutOfMemory}
use Rattle.hangar_core.specs.declared.entries.Entry.{Entry}
use Rattle.hangar_core.specs.declared.replies.Reply.{Reply}
use Rattle.hangar_core.specs.declared.workspaces.Workspace.{Workspace}
use Rattle.hangar_core.specs.Journals.{accepted_in, after_entries, Entries, IsReplay}
use Rattle.hangar_core.specs.ValidWorkspaces.{CountedWorkspace, IsActionOn, IsReplyOf, IsStepped}
use Rattle.hangar_core.specs.Steps.{step}
use Rattle.hangar_lock.specs.declared.desk.Desk.{Desk}
use Rattle.hangar_lock.specs.declared.receipts.Receipt.{Receipt}
use Rattle.hangar_lock.specs.Desks.{IsDesk}
use Rattle.hangar_lock.specs.Pasts.{IsPast}
use Rattle.hangar_lock.specs.Places.{StartsWith, ToldEntry}
use Rattle.hangar_lock.specs.Steps.{Seated, NotesEntry}
use Rattle.hangar_lock.specs.Views.{leaving_with}
use Rattle.hangar_lock.proofs.SameModels.{action_on, same_later}

all_added : {X : Type 0} (P : X → Type 0) (xs : List X) (x : X) → AllByRecursion P xs → P x → AllByRecursion P (xs ++ x ∷ [])
all_added P [] x all one = (one, tt)
all_added P (y ∷ ys) x all one = (all.0, all_added P ys x all.1 one)

replay_more : (w : Workspace) (entries : Entries) (x : ToldEntry) → IsReplay w entries → x.1 ≡ (step (after_entries w entries) x.0.action).0 → IsReplay w (entries ++ x ∷ [])
replay_more w [] x replay reply = (reply, tt)
replay_more w (entry ∷ entries) x replay reply = (replay.0, replay_more (step w entry.0.action).1 entries x replay.1 reply)

after_more : (w : Workspace) (entries : Entries) (x : ToldEntry) → after_entries w (entries ++ x ∷ []) ≡ (step (after_entries w entries) x.0.action).1
after_more w [] x = refl
after_more w (entry ∷ entries) x = after_more (step w entry.0.action).1 entries x

-- an action that is on the workspace that was opened is on the one that it is now
pub desk_action : (o : CountedWorkspace) (d : Desk) (entry : Entry) → IsDesk o d → IsActionOn o.workspace entry.action → IsActionOn d.hangar.workspace entry.action
desk_action o d entry desk on = action_on o.workspace d.hangar.workspace entry.action desk.session on

module _ (o : CountedWorkspace) (d : Desk) (entry : Entry) (desk : IsDesk o d) (on : IsActionOn o.workspace entry.action) where
  abbrev now : Workspace
  now = after_entries o.workspace d.journal

  -- what a step told is what the machine answers after the journal
  told_is : (d' : Desk) (told : Reply) → IsStepped d.hangar d'.hangar entry.action told → (told, d'.hangar.workspace) ≡ step now entry.action
  told_is d' told stepped = stepped.machine ∙ ap (λ (w : Workspace). step w entry.action) desk.workspace

  of_models : (d' : Desk) (told : Reply) → IsStepped d.hangar d'.hangar entry.action told → IsReplyOf o.workspace.models o.workspace.duration told
  of_models d' told stepped =
      subst (λ duration. IsReplyOf o.workspace.models duration told) desk.session.duration
      (subst (λ models. IsReplyOf models d.hangar.workspace.duration told) desk.session.models stepped.of_models)

  past_more : (d' : Desk) (told : Reply) → IsStepped d.hangar d'.hangar entry.action told → IsPast o.workspace (d.journal ++ (entry, told) ∷ [])
  past_more d' told stepped = record {
    replayed = replay_more o.workspace d.journal (entry, told) desk.past.replayed (ap (λ (made : Reply × Workspace). made.0) (told_is d' told stepped));
    actions = all_added (λ (x : ToldEntry). IsActionOn o.workspace x.0.action) d.journal (entry, told) desk.past.actions on;
    replies = all_added (λ (x : ToldEntry). IsReplyOf o.workspace.models o.workspace.duration x.1) d.journal (entry, told) desk.past.replies (of_models d' told stepped);
  }

  desk_more : (d' : Desk) (told : Reply) → IsStepped d.hangar d'.hangar entry.action told → d'.journal ≡ d.journal ++ (entry, told) ∷ [] →
      d'.hangar.accepted ≤ accepted_in d'.journal → IsDesk o d'
  desk_more d' told stepped noted counted = record {
    past = subst (IsPast o.workspace) (sym noted) (past_more d' told stepped);
    workspace =
        ap (λ (made : Reply × Workspace). made.1) (told_is d' told stepped)
        ∙ sym (after_more o.workspace d.journal (entry, told))
        ∙ ap (after_entries o.workspace) (sym noted);
    session = same_later o.workspace d.hangar.workspace d'.hangar.workspace desk.session stepped.session;
    counted = counted;
  }

  pub desk_acted : (d' : Desk) (r : Result Receipt OutOfMemory) → IfOk r (λ t. IsStepped d.hangar d'.hangar entry.action t.reply) →
      IfOk r (λ t. d'.journal ≡ d.journal ++ (entry, t.reply) ∷ []) → OnErr r (d' ≡ d) → d'.hangar.accepted ≤ accepted_in d'.journal → IsDesk o d'
  desk_acted d' (Ok t) stepped noted unchanged counted = desk_more d' t.reply stepped noted counted
  desk_acted d' (Err e) stepped noted unchanged counted = subst (IsDesk o) (sym unchanged) desk

  pub journal_grows : (d' : Desk) (r : Result Receipt OutOfMemory) → IfOk r (λ t. d'.journal ≡ d.journal ++ (entry, t.reply) ∷ []) → OnErr r (d' ≡ d) →
      StartsWith d'.journal d.journal
  journal_grows d' (Ok t) noted unchanged = ((entry, t.reply) ∷ [], noted)
  journal_grows d' (Err e) noted unchanged = ([], ap (λ (z : Desk). z.journal) unchanged ∙ sym (append_nil d.journal))
    where
      append_nil : (xs : Entries) → xs ++ [] ≡ xs
      append_nil [] = refl
      append_nil (x ∷ xs) = ap (λ (ys : Entries). x ∷ ys) (append_nil xs)

  pub worked : (d' : Desk) (before after : Seated) (r : Result Receipt OutOfMemory) → before.0.opened ≡ o → before.0.seen ≡ d.journal →
      IfOk r (λ t. IsStepped d.hangar d'.hangar entry.action t.reply) → IfOk r (λ t. d'.journal ≡ d.journal ++ (entry, t.reply) ∷ []) →
      IfOk r (λ t. t.place ≡ length d.journal) → after ≡ (leaving_with before.0 d'.journal, []) → IfOk r (NotesEntry before entry after)
  worked d' before after (Ok t) opened seen stepped noted placed left = record {
    place = placed ∙ ap length (sym seen);
    reply =
        ap (λ (made : Reply × Workspace). made.0) (told_is d' t.reply stepped)
        ∙ ap (λ (entries : Entries). (step (after_entries o.workspace entries) entry.action).0) (sym seen)
        ∙ ap (λ (w : CountedWorkspace). (step (after_entries w.workspace before.0.seen) entry.action).0) (sym opened);
    past =
        subst (λ (w : CountedWorkspace). IsPast w.workspace (before.0.seen ++ (entry, t.reply) ∷ [])) (sym opened)
        (subst (λ (entries : Entries). IsPast o.workspace (entries ++ (entry, t.reply) ∷ [])) (sym seen) (past_more d' t.reply stepped));
    after_is = left ∙ ap (λ (entries : Entries). (leaving_with before.0 entries, [])) (noted ∙ ap (λ (entries : Entries). entries ++ (entry, t.reply) ∷ []) (sym seen));
  }
  worked d' before after (Err e) opened seen stepped noted placed left = tt
