-- What the tokens of a text say of it.
use Rattle.std.proofs.Common.{◌≡◌, ℕ, zero, suc, ◌+◌, ◌-◌, ◌<◌, ◌≤◌, inl, inr, Bool, true, false, ◌∙◌, List, [], ◌∷◌, length, drop, get_or, Option, Some, None, Result, Ok, Err, IsUtf8, refl, ap, sym, subst, arith, add-zero, append-nil}
use Rattle.std.specs.Prelude.{All}
use Rattle.std.specs.List.{prefix_len}
use Rattle.std.specs.Str.{IsCharBoundary}
use Rattle.std.proofs.lemmas.Bool.{cases_lt}
use Rattle.std.proofs.lemmas.Bool.Decides.{nat_tests}
use Rattle.std.proofs.lemmas.List.{length-drop, get_or-drop}
use Rattle.std.proofs.lemmas.List.Elements.{All-cons, All-nil}
use Rattle.std.proofs.lemmas.List.Sums.{prefix_len-le-length, prefix_len_passes, prefix_len_stops}
use Rattle.std.proofs.lemmas.Str.{IsCharBoundary-before_ascii, IsCharBoundary-after_ascii, IsCharBoundary-start, IsCharBoundary-end}
use Rattle.aerie_text.specs.Bytes.{is_white}
use Rattle.aerie_text.specs.Gaps.{begins_comment, gap_len, is_in_line}
use Rattle.aerie_text.specs.Marks.{AreTokensWithin}
use Rattle.aerie_text.specs.TokenAt.{token_at}
use Rattle.aerie_text.specs.Tokens.{token, tokens_from, tokens_of, with_tokens}
use Rattle.aerie_text.specs.Cut.{AreTokens, no_more, one_more, IsBad, IsBlank, nothing, gap, IsFirstBad, IsTokenOf, IsAtEdges}
use Rattle.aerie_text.specs.declared.token.Token.{Token}
use Rattle.aerie_text.specs.declared.token.TokenKind.{TokenKind}
use Rattle.aerie_text.proofs.Beginnings.{token_facts}
use Rattle.aerie_text.proofs.Extents.{none_matches, read_longest}
use Rattle.aerie_text.proofs.Scanning.{bad_step, end_step, gap_step, token_step}

pub gap_within : (text : List ℕ) → gap_len text ≤ length text
gap_within text = go (begins_comment text) refl
  where
    go : (v : Bool) → begins_comment text ≡ v → gap_len text ≤ length text
    go true e = rw e (prefix_len-le-length is_in_line text)
    go false e = rw e (prefix_len-le-length is_white text)

-- what is said of a text by what is read from a place on
abbrev Says : List ℕ → ℕ → Result (List Token) ℕ → Type 0
Says text at (Ok tokens) = AreTokens text at tokens (length text)
Says text at (Err bad) = (before : List Token) × AreTokens text at before bad × IsBad text bad

behind_gap : (text : List ℕ) (at to : ℕ) (tokens : List Token) → 0 < gap_len (drop at text) → AreTokens text (at + gap_len (drop at text)) tokens to → AreTokens text at tokens to
behind_gap text at to tokens positive (no_more here there blank) = no_more at to (gap at to positive blank)
behind_gap text at to tokens positive (one_more here there token later blank is rest) = one_more at to token later (gap at token.from positive blank) is rest

says_gap : (text : List ℕ) (at : ℕ) (r : Result (List Token) ℕ) → 0 < gap_len (drop at text) → Says text (at + gap_len (drop at text)) r → Says text at r
says_gap text at (Ok tokens) positive said = behind_gap text at (length text) tokens positive said
says_gap text at (Err bad) positive said = (said.0, behind_gap text at bad said.0 positive said.1, said.2)

says_token : (text : List ℕ) (t : Token) (r : Result (List Token) ℕ) → IsTokenOf text t → Says text t.to r → Says text t.from (with_tokens (t ∷ []) r)
says_token text t (Ok tokens) is said = one_more t.from (length text) t tokens (nothing t.from) is said
says_token text t (Err bad) is said = (t ∷ said.0, one_more t.from bad t said.0 (nothing t.from) is said.1, said.2)

is_token : (text : List ℕ) (at : ℕ) (kind : TokenKind) (n : ℕ) → at < length text → token_at (drop at text) ≡ Some (kind, n) → IsTokenOf text (token at kind n)
is_token text at kind n lt e =
    let facts = token_facts (drop at text) kind n e in
    let len : at + n - at ≡ n = omega arith in
    record {
      rises = omega (arith, facts.positive);
      within = omega (arith, facts.within, length-drop at text);
      read = rw len e;
      longest = rw len (read_longest (drop at text) kind n e);
    }

says_end : (text : List ℕ) (at : ℕ) → at ≤ length text → length text ≤ at → Says text at (tokens_from at 0 (drop at text))
says_end text at within le =
    let here : at ≡ length text = omega arith in
    rw (end_step text at le) (no_more at (length text) (subst (IsBlank text at) here (nothing at)))

says : (bound : ℕ) (text : List ℕ) (at : ℕ) → at ≤ length text → length text ≤ at + bound → Says text at (tokens_from at 0 (drop at text))
says zero text at within le = says_end text at within (omega arith)
says (suc bound) text at within le =
    elim (cases_lt at (length text)) [
      | inl lt ↦ go lt (gap_len (drop at text)) (token_at (drop at text)) refl refl (λ to further inside. says bound text to inside (omega arith))
      | inr past ↦ says_end text at within past
    ]
  where
    go : at < length text → (g : ℕ) (found : Option (TokenKind × ℕ)) → gap_len (drop at text) ≡ g → token_at (drop at text) ≡ found
        → ((to : ℕ) → at < to → to ≤ length text → Says text to (tokens_from to 0 (drop to text))) → Says text at (tokens_from at 0 (drop at text))
    go lt (suc g) found e t later =
        let positive : 0 < gap_len (drop at text) = omega (arith, e) in
        let inside : gap_len (drop at text) ≤ length (drop at text) = gap_within (drop at text) in
        rw (gap_step text at (gap_len (drop at text)) lt refl positive inside)
        (says_gap text at _ positive (later (at + gap_len (drop at text)) (omega arith) (omega (arith, length-drop at text))))
    go lt zero None e t later = rw (bad_step text at lt e t) ([], no_more at at (nothing at), record { within = lt; no_gap = e; not_read = t; no_token = none_matches (drop at text) t })
    go lt zero (Some (kind, n)) e t later =
        let facts = token_facts (drop at text) kind n t in
        rw (token_step text at kind n e t facts.positive facts.within)
        (says_token text (token at kind n) _ (is_token text at kind n lt t) (later (at + n) (omega (arith, facts.positive)) (omega (arith, facts.within, length-drop at text))))

whole : (text : List ℕ) → Says text 0 (tokens_of text)
unfolding tokens_of
whole text = says (length text) text 0 (omega arith) (omega arith)

pub are_tokens : (text : List ℕ) (tokens : List Token) → tokens_of text ≡ Ok tokens → AreTokens text 0 tokens (length text)
are_tokens text tokens e = subst (Says text 0) e (whole text)

pub first_bad : (text : List ℕ) (at : ℕ) → tokens_of text ≡ Err at → IsFirstBad text at
first_bad text at e =
    let said = subst (Says text 0) e (whole text) in
    record { before = said.0; read = said.1; bad = said.2 }

-- ---- edges of characters

byte_at : (text : List ℕ) (at i : ℕ) → get_or (drop at text) i 0 < 128 → get_or text (at + i) 0 < 128
byte_at text at i below = subst (λ (x : ℕ). x < 128) (get_or-drop at text i 0) below

edge_before : (text : List ℕ) (at : ℕ) → at < length text → get_or (drop at text) 0 0 < 128 → IsCharBoundary text at
edge_before text at lt below = IsCharBoundary-before_ascii text at lt (subst (λ (i : ℕ). get_or text i 0 < 128) (add-zero at) (byte_at text at 0 below))

edge_behind : (text : List ℕ) (at n : ℕ) → IsUtf8 text → 0 < n → at + n ≤ length text → get_or (drop at text) (n - 1) 0 < 128 → IsCharBoundary text (at + n)
edge_behind text at n utf8 positive le below =
    let place : at + (n - 1) + 1 ≡ at + n = omega arith in
    subst (IsCharBoundary text) place (IsCharBoundary-after_ascii text (at + (n - 1)) utf8 (omega arith) (byte_at text at (n - 1) below))

white_ascii : (b : ℕ) → is_white b ≡ true → b < 128
white_ascii b e = grind (arith, nat_tests)

feed_ascii : (b : ℕ) → is_in_line b ≡ false → b < 128
feed_ascii b e = grind (arith, nat_tests)

gap_edge : (text : List ℕ) (at : ℕ) → IsUtf8 text → 0 < gap_len (drop at text) → IsCharBoundary text (at + gap_len (drop at text))
gap_edge text at utf8 positive = go (begins_comment (drop at text)) refl
  where
    inside : at + gap_len (drop at text) ≤ length text
    inside = omega (arith, gap_within (drop at text), length-drop at text, positive)

    go : (v : Bool) → begins_comment (drop at text) ≡ v → IsCharBoundary text (at + gap_len (drop at text))
    go false e =
        let run : gap_len (drop at text) ≡ prefix_len is_white (drop at text) = rw e refl in
        edge_behind text at (gap_len (drop at text)) utf8 positive inside (white_ascii _ (prefix_len_passes is_white (drop at text) (gap_len (drop at text) - 1) 0 (omega arith)))
    go true e =
        let run : gap_len (drop at text) ≡ prefix_len is_in_line (drop at text) = rw e refl in
        elim (cases_lt (gap_len (drop at text)) (length (drop at text))) [
          | inl lt ↦
              let stops : is_in_line (get_or (drop at text) (prefix_len is_in_line (drop at text)) 0) ≡ false = prefix_len_stops is_in_line (drop at text) 0 (omega arith) in
              let below : get_or (drop at text) (gap_len (drop at text)) 0 < 128 = rw run (feed_ascii _ stops) in
              IsCharBoundary-before_ascii text (at + gap_len (drop at text)) (omega (arith, length-drop at text)) (byte_at text at (gap_len (drop at text)) below)
          | inr le ↦
              let ended : length text ≡ at + gap_len (drop at text) = omega (arith, inside, length-drop at text) in
              subst (IsCharBoundary text) ended (IsCharBoundary-end text)
        ]

blank_edge : (text : List ℕ) (at to : ℕ) → IsUtf8 text → IsCharBoundary text at → IsBlank text at to → IsCharBoundary text to
blank_edge text at to utf8 edge (nothing here) = edge
blank_edge text at to utf8 edge (gap here there positive blank) = blank_edge text (at + gap_len (drop at text)) to utf8 (gap_edge text at utf8 positive) blank

pub token_edges : (text : List ℕ) (t : Token) → IsUtf8 text → IsTokenOf text t → IsAtEdges text t
token_edges text t utf8 is =
    let facts = token_facts (drop t.from text) t.kind (t.to - t.from) is.read in
    let place : t.from + (t.to - t.from) ≡ t.to = omega (arith, is.rises) in (
      edge_before text t.from (omega (arith, is.rises, is.within)) facts.first,
      subst (IsCharBoundary text) place (edge_behind text t.from (t.to - t.from) utf8 facts.positive (omega (arith, is.rises, is.within)) facts.last),
    )

pub all_edges : (text : List ℕ) (at to : ℕ) (tokens : List Token) → IsUtf8 text → AreTokens text at tokens to → All (IsAtEdges text) tokens
all_edges text at to tokens utf8 (no_more here there blank) = All-nil (IsAtEdges text)
all_edges text at to tokens utf8 (one_more here there token later blank is rest) =
    All-cons (IsAtEdges text) token later (token_edges text token utf8 is) (all_edges text token.to to later utf8 rest)

last_edge : (text : List ℕ) (at to : ℕ) (tokens : List Token) → IsUtf8 text → IsCharBoundary text at → AreTokens text at tokens to → IsCharBoundary text to
last_edge text at to tokens utf8 edge (no_more here there blank) = blank_edge text at to utf8 edge blank
last_edge text at to tokens utf8 edge (one_more here there token later blank is rest) = last_edge text token.to to later utf8 (token_edges text token utf8 is).1 rest

pub bad_edge : (text : List ℕ) (at : ℕ) → IsUtf8 text → IsFirstBad text at → IsCharBoundary text at
bad_edge text at utf8 bad = last_edge text 0 at bad.before utf8 (IsCharBoundary-start text utf8) bad.read

-- ---- tokens in a row

-- the tokens of a text are in a row among them
pub all_within : (text : List ℕ) (tokens : List Token) → tokens_of text ≡ Ok tokens → AreTokensWithin text tokens
all_within text tokens are = record { before = []; behind = []; are = are ∙ ap Ok (sym (append-nil tokens)) }
