-- When all commands are over, the text is that of the session along the journal of clients in rounds.
use Rattle.std.proofs.Common.{◌≡◌, ℕ, zero, suc, ◌+◌, ◌≤◌, List, [], ◌∷◌, ◌++◌, length, take, Some, refl, ap, ◌∙◌, subst, arith, slice_get}
use Rattle.std.specs.List.{filter}
use Rattle.std.proofs.lemmas.List.{append-nil}
use Rattle.json_line.specs.Json.{line_of}
use Rattle.commands.specs.declared.commands.Command.{Command}
use Rattle.hangar_core.specs.Fits.{is_of_client}
use Rattle.hangar_core.specs.Journals.{Entries, IsReplay}
use Rattle.hangar_core.specs.Serial.{NumberedCommand, longest, one_by_one, serial, in_rounds}
use Rattle.hangar_lock.specs.laws.ClientsWork.{CommandsHaveFewParts}
use Rattle.hangar_lock.specs.Places.{HaveAllOf, Places, StandIn}
use Rattle.report_text.specs.JournalLines.{journal_data}
use Rattle.session_reader.specs.declared.session.Client.{Client}
use Rattle.session_judge.specs.declared.judged.JudgedSession.{JudgedSession}
use Rattle.client_work.specs.declared.missions.Mission.{Mission}
use Rattle.client_work.specs.declared.missions.ReportForm.{ReportForm}
use Rattle.client_work.specs.Lines.{told_text}
use Rattle.client_work.specs.Working.{own_entries, IsWorkTold}
use Rattle.session_run.specs.Joined.{joined_texts}
use Rattle.session_run.specs.Missions.{all_commands, mission_of, opening_of, session_meanings}
use Rattle.session_run.specs.Performed.{IsPerformedInTurn, serial_journal}
use Rattle.session_run.specs.Texts.{AreAllPaidFor, client_numbered, clients_text}
use Rattle.session_run.specs.Rounds.{AreToldUntil, AreEntriesOf, done_until, HasDoneRounds, Stand}
use Rattle.session_run.specs.Steps.{AreAllRises, risen_in, risen_in_all, together}
use Rattle.session_run.proofs.Placed.{placed_all}
use Rattle.session_run.proofs.Replayed.{in_turn}
use Rattle.session_run.proofs.Rounds.{done_before, none_some, same_some, take_all}
use Rattle.session_run.proofs.Telling.{first_then, told_is_text}

-- ---- all commands are done

longest_enough : (clients : List Client) (which : ℕ) (client : Client) → slice_get clients which ≡ Some client → length client.commands ≤ longest (all_commands clients)
longest_enough [] which client at = absurd (none_some client at)
longest_enough (first ∷ clients) zero client at =
    let same : length first.commands ≡ length client.commands = ap (λ (x : Client). length x.commands) (some at) in omega (arith, same)
  where
    some : Some first ≡ Some client → first ≡ client
    some e = cc
longest_enough (first ∷ clients) (suc which) client at = let h = longest_enough clients which client at in omega (arith, h)

-- ---- the texts of all clients

module _ (mission : Mission) (journal : Entries) where
  abbrev pub AreTold : ℕ → List Client → List (List ℕ) → List ℕ → Type 0
  AreTold base clients texts totals = (which : ℕ) (client : Client) (text : List ℕ) (total : ℕ) →
      slice_get clients which ≡ Some client → slice_get texts which ≡ Some text → slice_get totals which ≡ Some total →
      IsWorkTold mission (client_numbered (base + which) client) 0 client.commands (filter (is_of_client (base + which)) journal) text total

  -- what the texts of all clients tell together
  pub record AllTell (base : ℕ) (clients : List Client) (texts : List (List ℕ)) (totals : List ℕ) : Type 0 where
    pub counts : ℕ → ℕ → ℕ
    pub rises : ℕ → ℕ → ℕ
    pub told : joined_texts texts ≡ clients_text mission counts journal base clients
    pub paid : AreAllPaidFor mission counts journal base clients
    pub counted : AreAllRises counts rises clients
    pub risen : together totals ≡ risen_in_all rises clients

  pub joined : (base : ℕ) (clients : List Client) (texts : List (List ℕ)) (totals : List ℕ) → length texts ≡ length clients → length totals ≡ length clients →
      AreTold base clients texts totals → AllTell base clients texts totals
  unfolding first_then
  joined base [] [] [] count many told = record { counts = λ which number. 0; rises = λ which number. 0; told = refl; paid = tt; counted = tt; risen = refl }
  joined base [] [] (total ∷ totals) count many told = absurd (omega (arith, many))
  joined base [] (text ∷ texts) totals count many told = absurd (omega (arith, count))
  joined base (client ∷ clients) [] totals count many told = absurd (omega (arith, count))
  joined base (client ∷ clients) (text ∷ texts) [] count many told = absurd (omega (arith, many))
  joined base (client ∷ clients) (text ∷ texts) (total ∷ totals) count many told =
      let first = subst (λ (n : ℕ). IsWorkTold mission (client_numbered n client) 0 client.commands (filter (is_of_client n) journal) text total) (omega arith) (told 0 client text total refl refl refl) in
      let own = told_is_text mission (client_numbered base client) client.commands (filter (is_of_client base) journal) text total first in
      let rest = joined (base + 1) clients texts totals (omega (arith, count)) (omega (arith, many)) (λ which x t n at there has.
      subst (λ (of : ℕ). IsWorkTold mission (client_numbered of x) 0 x.commands (filter (is_of_client of) journal) t n) (omega arith) (told (suc which) x t n at there has)) in
      let mine = own.together in
      let others = rest.risen in
      record {
        counts = first_then own.counts rest.counts;
        rises = first_then own.rises rest.rises;
        told =
            ap (λ (l : List ℕ). l ++ joined_texts texts) own.told
            ∙ ap (λ (l : List ℕ). told_text mission (client_numbered base client) own.counts (filter (is_of_client base) journal) 0 client.commands ++ l) rest.told;
        paid = (own.paid, rest.paid);
        counted = (own.counted, rest.counted);
        risen = ap (λ (n : ℕ). n + together totals) mine ∙ ap (λ (n : ℕ). risen_in own.rises client.commands + n) others;
      }

  -- texts that tell, each by some total
  abbrev pub AreToldSomehow : ℕ → List Client → List (List ℕ) → Type 0
  AreToldSomehow base clients texts = (which : ℕ) (client : Client) (text : List ℕ) → slice_get clients which ≡ Some client → slice_get texts which ≡ Some text →
      (total : ℕ) × IsWorkTold mission (client_numbered (base + which) client) 0 client.commands (filter (is_of_client (base + which)) journal) text total

  pub record WithTotals (base : ℕ) (clients : List Client) (texts : List (List ℕ)) : Type 0 where
    pub totals : List ℕ
    pub many : length totals ≡ length clients
    pub told : AreTold base clients texts totals

  with_one_more : (base : ℕ) (client : Client) (clients : List Client) (text : List ℕ) (texts : List (List ℕ)) (total : ℕ) →
      IsWorkTold mission (client_numbered (base + 0) client) 0 client.commands (filter (is_of_client (base + 0)) journal) text total →
      WithTotals (base + 1) clients texts → WithTotals base (client ∷ clients) (text ∷ texts)
  with_one_more base client clients text texts total first rest = record { totals = total ∷ rest.totals; many = ap suc rest.many; told = each }
    where
      each : AreTold base (client ∷ clients) (text ∷ texts) (total ∷ rest.totals)
      each zero x t n at there has =
          subst (λ (k : ℕ). IsWorkTold mission (client_numbered (base + 0) x) 0 x.commands (filter (is_of_client (base + 0)) journal) t k) (same_some total n has)
          (subst (λ (l : List ℕ). IsWorkTold mission (client_numbered (base + 0) x) 0 x.commands (filter (is_of_client (base + 0)) journal) l total) (same_some text t there)
          (subst (λ (z : Client). IsWorkTold mission (client_numbered (base + 0) z) 0 z.commands (filter (is_of_client (base + 0)) journal) text total) (same_some client x at) first))
      each (suc which) x t n at there has =
          subst (λ (of : ℕ). IsWorkTold mission (client_numbered of x) 0 x.commands (filter (is_of_client of) journal) t n) (omega arith) (rest.told which x t n at there has)

  pub with_totals : (base : ℕ) (clients : List Client) (texts : List (List ℕ)) → length texts ≡ length clients → AreToldSomehow base clients texts → WithTotals base clients texts
  with_totals base [] texts count told = record { totals = []; many = refl; told = λ which client text total at there has. absurd (none_some client at) }
  with_totals base (client ∷ clients) [] count told = absurd (omega (arith, count))
  with_totals base (client ∷ clients) (text ∷ texts) count told =
      let first = told 0 client text refl refl in
      with_one_more base client clients text texts first.0 first.1
      (with_totals (base + 1) clients texts (omega (arith, count)) (λ which x t at there.
      subst (λ (of : ℕ). (total : ℕ) × IsWorkTold mission (client_numbered of x) 0 x.commands (filter (is_of_client of) journal) t total) (omega arith) (told (suc which) x t at there)))

-- ---- together

pub serial_is : (judged : JudgedSession) (bound : ℕ) → one_by_one (session_meanings judged bound) (opening_of judged.session)
    (in_rounds (longest (all_commands judged.session.clients)) 0 (all_commands judged.session.clients)) ≡ serial_journal judged bound
unfolding serial
serial_is judged bound = refl

module _ (judged : JudgedSession) (bound : ℕ) (form : ReportForm) (few : CommandsHaveFewParts) where
  abbrev mission : Mission
  mission = mission_of judged bound form

  abbrev clients : List Client
  clients = judged.session.clients

  abbrev rounds : ℕ
  rounds = longest (all_commands clients)

  told_whole : (journal : Entries) (texts : List (List ℕ)) (totals : List ℕ) → AreToldUntil mission clients rounds 0 journal texts totals → AreTold mission journal 0 clients texts totals
  told_whole journal texts totals told which client text total at there has =
      let all : take (done_until rounds 0 which) client.commands ≡ client.commands =
      ap (λ (n : ℕ). take n client.commands) (done_before rounds 0 which (omega arith)) ∙ take_all client.commands rounds (longest_enough clients which client at) in
      subst (λ (n : ℕ). IsWorkTold mission (client_numbered n client) 0 client.commands (filter (is_of_client n) journal) text total) (omega arith)
      (subst (λ (l : List Command). IsWorkTold mission (client_numbered which client) 0 l (filter (is_of_client which) journal) text total) all (told.each which client text total at there has))

  pub finished : (first last : Stand) (journal : Entries) (texts : List (List ℕ)) (text : List ℕ) → first.pass.mine ≡ [] → first.pass.seen ≡ [] →
      HasDoneRounds mission clients first last texts → StandIn last.pass.mine journal → HaveAllOf last.pass.mine journal → IsReplay (opening_of judged.session) journal →
      text ≡ line_of (journal_data journal) ++ joined_texts texts → IsPerformedInTurn judged bound form text first.steps last.steps
  finished first last journal texts text none unseen done right all replayed whole =
      let mine : last.pass.mine ≡ done.gained = done.gains.mine ∙ ap (λ (l : Places). l ++ done.gained) none in
      let rises = subst (λ (l : Entries). Rattle.hangar_lock.specs.ClientEntries.RisesTo (length l) (length last.pass.seen) done.gained) unseen done.gains.rises in
      let entries : own_entries done.gained ≡ journal =
      placed_all (length last.pass.seen) done.gained journal rises (subst (λ (l : Places). StandIn l journal) mine right) (subst (λ (l : Places). HaveAllOf l journal) mine all) in
      let entries_are : AreEntriesOf (session_meanings judged bound) (in_rounds rounds 0 (all_commands clients)) journal =
      subst (AreEntriesOf (session_meanings judged bound) (in_rounds rounds 0 (all_commands clients))) entries
      (subst (λ (l : List NumberedCommand). AreEntriesOf (session_meanings judged bound) l (own_entries done.gained)) (append-nil (in_rounds rounds 0 (all_commands clients))) done.done) in
      let serial_one : journal ≡ serial_journal judged bound = in_turn (session_meanings judged bound) few (in_rounds rounds 0 (all_commands clients)) (opening_of judged.session) journal entries_are replayed ∙ serial_is judged bound in
      let told : AreToldUntil mission clients rounds 0 journal texts done.totals = subst (λ (l : Entries). AreToldUntil mission clients rounds 0 l texts done.totals) entries done.told in
      let tell = joined mission journal 0 clients texts done.totals told.count told.many (told_whole journal texts done.totals told) in
      record {
        counts = tell.counts;
        paid = subst (λ (l : Entries). AreAllPaidFor mission tell.counts l 0 clients) serial_one tell.paid;
        told =
            whole
            ∙ ap (λ (l : List ℕ). line_of (journal_data journal) ++ l) tell.told
            ∙ ap (λ (l : Entries). line_of (journal_data l) ++ clients_text mission tell.counts l 0 clients) serial_one;
        rises = tell.rises;
        counted = tell.counted;
        risen = λ all_tell. done.risen all_tell ∙ ap (λ (n : ℕ). first.steps + n) tell.risen;
      }
