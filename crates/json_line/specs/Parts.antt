-- What is written for data, a token at a time, and data that is put together of parts.
use Rattle.std.specs.Prelude.{ℕ, ◌∷◌, [], ◌++◌, List, Option, Some, None}
use Rattle.json.specs.Token.{Token, key}
use Rattle.json.specs.Tree.{items_tokens, json_tokens, members_tokens}
use Rattle.serde_json.specs.Data.{Data, Items, Members, member, no_members, null}
use Rattle.serde_json.specs.Written.{items_outline, members_outline, outline}

-- ---- data

-- a value that may be absent: null where it is
abbrev pub optional_data : {A : Type 0} → (A → Data) → Option A → Data
optional_data form (Some value) = form value
optional_data form None = null

-- members of these names and values, in this order
abbrev pub members_from : List (List ℕ × Data) → Members
members_from [] = no_members
members_from (named ∷ later) = member named.0 named.1 (members_from later)

-- these members, behind one that stands there only with a value
unfoldable pub member_if : List ℕ → Option Data → Members → Members
member_if name (Some data_) members = member name data_ members
member_if name None members = members

-- ---- tokens

-- the tokens of the data in its compact text
unfoldable pub data_tokens : Data → List Token
data_tokens data_ = json_tokens (outline data_)

-- the tokens of a member
unfoldable pub member_tokens : List ℕ → Data → List Token
member_tokens name data_ = key name ∷ data_tokens data_

-- the tokens of a member that stands there only with a value
unfoldable pub member_if_tokens : List ℕ → Option Data → List Token
member_if_tokens name (Some data_) = member_tokens name data_
member_if_tokens name None = []

-- the tokens of these values, one behind another
unfoldable pub listed_tokens : List Data → List Token
listed_tokens [] = []
listed_tokens (data_ ∷ later) = data_tokens data_ ++ listed_tokens later

-- what stands behind these tokens, when the members that are left and the closing bracket have been written
unfoldable pub with_members : List Token → Members → List Token
with_members front members = front ++ members_tokens (members_outline members)

-- what stands behind these tokens, when the items that are left and the closing bracket have been written
unfoldable pub with_items : List Token → Items → List Token
with_items front items = front ++ items_tokens (items_outline items)
