-- How the tokens of an array and of an object come about, part by part.
use Rattle.std.proofs.Common.{◌≡◌, ◌++◌, ◌∷◌, ◌∙◌, [], ℕ, List, Option, Some, None, ap, append-nil, append_assoc, refl, sym}
use Rattle.json.specs.Token.{Token, begin_array, begin_object, end_array, end_object, key}
use Rattle.json.specs.Tree.{items_tokens, members_tokens}
use Rattle.serde_json.specs.Data.{Data, Items, Members, array, item, member, no_items, no_members, object}
use Rattle.serde_json.specs.View.{items_of}
use Rattle.serde_json.specs.Written.{items_outline, members_outline}
use Rattle.json_line.specs.Parts.{data_tokens, listed_tokens, member_if, member_if_tokens, member_tokens, with_items, with_members}

pub object_opens : (front : List Token) (ms : Members) → front ++ data_tokens (object ms) ≡ with_members (front ++ begin_object ∷ []) ms
unfolding data_tokens with_members
object_opens front ms = sym (append_assoc front (begin_object ∷ []) (members_tokens (members_outline ms)))

pub member_next : (front : List Token) (k : List ℕ) (d : Data) (ms : Members) → with_members front (member k d ms) ≡ with_members (front ++ member_tokens k d) ms
unfolding data_tokens with_members member_tokens
member_next front k d ms = sym (append_assoc front (key k ∷ data_tokens d) (members_tokens (members_outline ms)))

pub member_if_next : (front : List Token) (k : List ℕ) (o : Option Data) (ms : Members) → with_members front (member_if k o ms) ≡ with_members (front ++ member_if_tokens k o) ms
unfolding member_if member_if_tokens
member_if_next front k (Some d) ms = member_next front k d ms
member_if_next front k None ms = ap (λ x. with_members x ms) (sym (append-nil front))

pub object_ends : (front : List Token) → with_members front no_members ≡ front ++ end_object ∷ []
unfolding with_members
object_ends front = refl

pub array_opens : (front : List Token) (ds : Items) → front ++ data_tokens (array ds) ≡ with_items (front ++ begin_array ∷ []) ds
unfolding data_tokens with_items
array_opens front ds = sym (append_assoc front (begin_array ∷ []) (items_tokens (items_outline ds)))

pub item_next : (front : List Token) (d : Data) (ds : Items) → with_items front (item d ds) ≡ with_items (front ++ data_tokens d) ds
unfolding data_tokens with_items
item_next front d ds = sym (append_assoc front (data_tokens d) (items_tokens (items_outline ds)))

pub array_ends : (front : List Token) → with_items front no_items ≡ front ++ end_array ∷ []
unfolding with_items
array_ends front = refl

-- ---- items one behind another

pub listed_append : (ds es : List Data) → listed_tokens (ds ++ es) ≡ listed_tokens ds ++ listed_tokens es
unfolding listed_tokens
listed_append [] es = refl
listed_append (d ∷ ds) es = ap (λ ts. data_tokens d ++ ts) (listed_append ds es) ∙ sym (append_assoc (data_tokens d) (listed_tokens ds) (listed_tokens es))

listed_all : (front : List Token) (ds : List Data) → with_items front (items_of ds) ≡ (front ++ listed_tokens ds) ++ end_array ∷ []
unfolding listed_tokens
listed_all front [] = array_ends front ∙ ap (λ ts. ts ++ end_array ∷ []) (sym (append-nil front))
listed_all front (d ∷ ds) =
    item_next front d (items_of ds) ∙ listed_all (front ++ data_tokens d) ds
    ∙ ap (λ ts. ts ++ end_array ∷ []) (append_assoc front (data_tokens d) (listed_tokens ds))

-- an array is its items between its brackets
pub array_listed : (front : List Token) (ds : List Data) → front ++ data_tokens (array (items_of ds)) ≡ ((front ++ begin_array ∷ []) ++ listed_tokens ds) ++ end_array ∷ []
array_listed front ds = array_opens front (items_of ds) ∙ listed_all (front ++ begin_array ∷ []) ds

-- for the proof of a function that writes an object or an array part by part
pub ruleset part_by_part = (object_opens, member_next, member_if_next, object_ends, array_opens, item_next, array_ends)
