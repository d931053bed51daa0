-- A file of lemmas: what it proves need not be read to trust a clause.
--
-- How a `List` stores its items: as a list of them, beside an address and spare room that its value leaves out. With
-- this a type can reach itself through a `List`, as a block of statements does.
use mathlib.Core.Path.{◌≡◌, refl, sym}
use mathlib.Core.List.{List, []}
use mathlib.Core.Former.{Former, this, list, via, children}
use base.Stored.{code_map}
use denote.RattleType.{RattleType}
use denote.HoleLaws.{Alike}
use denote.HolePlaces.{Recodes, struct_places, laid}
use denote.Hole.Carrier.{listed, list-listed}
use denote.Hole.Fix.{over}
use denote.Param.Weighed.{Weighed, w_list}
use denote.Model.Placed.{view_places}
use Rattle.std.specs.formers.vec.Vec as vector
use Rattle.std.specs.declared.alloc.Global.{Global}
use Rattle.std.specs.contracts.alloc.Global as global
use Rattle.std.specs.contracts.impls.GlobalAllocator.TheImpl.{ghosts}
use Rattle.aerie_base.specs.declared.containers.list.List.TheInside.{Inside}
use Rattle.aerie_base.specs.declared.containers.list.List.TheView.{view, invariant}
use Rattle.aerie_base.specs.contracts.containers.list.List as outer
use Rattle.aerie_base.specs.contracts.containers.list.List.TheInside as inner

-- what a list holds: items of whatever kind the inner former holds
abbrev pub the_former : Former {0} → Former {0}
the_former item = list item

-- the largest measure among the items
abbrev pub the_weighed : {item : Former {0}} → Weighed item → Weighed (the_former item)
the_weighed weight = w_list weight

-- the list of no items, with which a recursive type begins
pub the_empty : List ⊥
the_empty = []

-- the items in their order, which is the order of the stored ones
abbrev pub the_items : (X : Type 0) → List X → List X
the_items X xs = xs

pub the_items_listed : (X : Type 0) (xs : List X) → listed _ (children (the_former this) X xs) ≡ the_items X xs
the_items_listed X xs = list-listed X xs

-- the struct as its one field, a vector in the global allocator
abbrev stored : Former {0}
stored =
    via (vector.the_former this Global) Inside (λ X fields. fields.items) (λ X items. record { items = items })
    (λ X fields. refl) (λ X items. refl)

module _ (R S : RattleType) (h : R.Denot → S.Denot) where
  -- two kinds of item that are laid out alike give two lists that are
  pub the_places : Alike R S h → Alike (outer.the_row R) (outer.the_row S) ((the_former this).map R.Denot S.Denot h)
  the_places alike =
      view_places stored (list this) view (λ X Y k fields. refl) (λ X fields. refl) R.Denot S.Denot h
      (outer.the_row R).coded (outer.the_row S).coded (invariant R.Denot) (invariant S.Denot)
      (λ fields p q. refl) (λ fields p q. refl) (λ fields same. tt) (λ fields same. tt)
      (over (inner.the_row R)) (over (inner.the_row S))
      (struct_places (inner.the_type R) (inner.the_type S) (vector.mapped h, tt) _ (λ fields. refl) refl
      (laid _ _ _ (vector.the_places global.the_row ghosts R S h alike), tt))

  -- and the same code
  pub the_codes_placed : Recodes R S h → Recodes (outer.the_row R) (outer.the_row S) ((the_former this).map R.Denot S.Denot h)
  the_codes_placed recodes xs = sym (code_map R.coded.code S.coded.code h (λ x. sym (recodes x)) xs)
