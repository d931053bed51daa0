-- Items with keys, of which the last with a key is found first.
use Rattle.std.specs.Prelude.{◌≡◌, ℕ, suc, Bool, true, false, List, [], ◌∷◌, Option, Some, None, nat_eq, slice_get}
use Rattle.std.specs.Option.{option_map}

-- the position behind, or the first where it is one
abbrev pub position_behind : Bool → Option ℕ → Option ℕ
position_behind is_first (Some at) = Some (suc at)
position_behind true None = Some 0
position_behind false None = None

-- the position of the last item with a key
abbrev pub last_with : {T : Type 0} → ℕ → List (ℕ × T) → Option ℕ
last_with key [] = None
last_with key (item ∷ rest) = position_behind (nat_eq key item.0) (last_with key rest)

-- the item at a position, without its key
abbrev pub keyed_item : {T : Type 0} → List (ℕ × T) → ℕ → Option T
keyed_item items at = option_map (λ item. item.1) (slice_get items at)

-- an item is not there
abbrev pub HasNo : {T : Type 0} → List (ℕ × T) → T → Type 0
HasNo items item = (at : ℕ) → keyed_item items at ≡ Some item → ⊥

-- with this key it is not there
abbrev pub HasNoUnder : {T : Type 0} → ℕ → List (ℕ × T) → T → Type 0
HasNoUnder key items item = (at : ℕ) → slice_get items at ≡ Some (key, item) → ⊥

-- what was there still is
abbrev pub AllStay : {T : Type 0} → List (ℕ × T) → List (ℕ × T) → Type 0
AllStay {T} before after = (at : ℕ) (item : T) → keyed_item before at ≡ Some item → keyed_item after at ≡ Some item
