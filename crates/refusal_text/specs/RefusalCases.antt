-- Lines of refusals, written out.
use Rattle.std.specs.Prelude.{◌≡◌, ℕ, List, [], ◌∷◌, codes, Some, None, refl}
use Rattle.std.specs.Fmt.{digits}
use Rattle.json.specs.Print.{escape_byte}
use Rattle.serde_json.specs.Written.{compact_text}
use Rattle.json_line.specs.Json.{line_of}
use Rattle.json_line.specs.Parts.{member_if}
use Rattle.plan_edit.specs.declared.errors.EditError.TheVariants as edit
use Rattle.plan_edit.specs.declared.errors.MigrateError.TheVariants as migrate
use Rattle.plan_merge.specs.declared.answers.ConflictKind.TheVariants.{Both, Removed, Anchor, Cycle}
use Rattle.plan_merge.specs.declared.answers.MergeError.TheVariants as merge
use Rattle.dataset_in.specs.declared.dataset_error.DatasetError.TheVariants as dataset
use Rattle.refusal_text.specs.EditRefusals.{edit_data, merge_refusal_data, migrate_data}
use Rattle.refusal_text.specs.Refusals.{refusal_data, refused_data}
use Rattle.refusal_text.specs.declared.refusals.Refusal.{Refusal}

abbrev refused_line : Refusal → List ℕ
refused_line refusal = line_of (refused_data (refusal_data refusal))

-- a refusal that is told by its name alone
abbrev named : List ℕ → Refusal
named name = record { name = name; place = None; word = None; what = None; at = None; number = None; edit = None; fault = None }

-- ---- of a session

pub words : refused_line (named (codes "Words")) ≡ codes "{\"refused\":{\"name\":\"Words\"}}\n"
unfolding member_if digits escape_byte
words = refl

pub too_large : refused_line (named (codes "TooLarge")) ≡ codes "{\"refused\":{\"name\":\"TooLarge\"}}\n"
unfolding member_if digits escape_byte
too_large = refl

pub not_text : refused_line (record (named (codes "NotText")) { at = Some 2 }) ≡ codes "{\"refused\":{\"at\":2,\"name\":\"NotText\"}}\n"
unfolding member_if digits escape_byte
not_text = refl

pub syntax_at_the_end : refused_line (record (named (codes "Syntax")) { place = Some (record { line = 2; column = 20 }) }) ≡ codes "{\"refused\":{\"column\":20,\"line\":2,\"name\":\"Syntax\"}}\n"
unfolding member_if digits escape_byte
syntax_at_the_end = refl

pub too_many_clients : refused_line (record (named (codes "TooMany")) { place = Some (record { line = 90; column = 1 }); what = Some (codes "clients") })
    ≡ codes "{\"refused\":{\"column\":1,\"line\":90,\"name\":\"TooMany\",\"what\":\"clients\"}}\n"
unfolding member_if digits escape_byte
too_many_clients = refl

pub a_name_twice : refused_line (record (named (codes "Duplicate")) { place = Some (record { line = 1; column = 34 }); word = Some (codes "n") })
    ≡ codes "{\"refused\":{\"column\":34,\"line\":1,\"name\":\"Duplicate\",\"word\":\"n\"}}\n"
unfolding member_if digits escape_byte
a_name_twice = refl

-- the token there is a string: its quotation marks are escaped
pub a_word_in_quotes : refused_line (record (named (codes "WrongType")) { place = Some (record { line = 3; column = 7 }); word = Some (codes "\"a\"") })
    ≡ codes "{\"refused\":{\"column\":7,\"line\":3,\"name\":\"WrongType\",\"word\":\"\\\"a\\\"\"}}\n"
unfolding member_if digits escape_byte
a_word_in_quotes = refl

pub a_directive : refused_line (record (named (codes "Directive")) { number = Some 0; edit = Some (edit.BadArgument (codes "by")) })
    ≡ codes "{\"refused\":{\"edit\":{\"name\":\"BadArgument\",\"parameter\":\"by\"},\"name\":\"Directive\",\"number\":0}}\n"
unfolding member_if digits escape_byte
a_directive = refl

pub a_dataset : refused_line (record (named (codes "Dataset")) { number = Some 1; fault = Some (dataset.BadSegment 3) })
    ≡ codes "{\"refused\":{\"fault\":{\"name\":\"BadSegment\",\"number\":3},\"name\":\"Dataset\",\"number\":1}}\n"
unfolding member_if digits escape_byte
a_dataset = refl

-- ---- of a reply

pub a_require : compact_text (edit_data (edit.Invalid 1)) ≡ codes "{\"name\":\"Invalid\",\"number\":1}"
unfolding digits escape_byte
a_require = refl

pub outside : compact_text (edit_data edit.OutsidePlan) ≡ codes "{\"name\":\"OutsidePlan\"}"
unfolding escape_byte
outside = refl

pub anchored : compact_text (edit_data (edit.Anchored 12)) ≡ codes "{\"by\":12,\"name\":\"Anchored\"}"
unfolding digits escape_byte
anchored = refl

pub unmapped : compact_text (migrate_data (migrate.Unmapped 7)) ≡ codes "{\"id\":7,\"name\":\"Unmapped\"}"
unfolding digits escape_byte
unmapped = refl

pub misfit : compact_text (migrate_data (migrate.Misfit 7 0)) ≡ codes "{\"id\":7,\"name\":\"Misfit\",\"number\":0}"
unfolding digits escape_byte
misfit = refl

pub conflicts : compact_text (merge_refusal_data (merge.Conflicts (record { id = 1; kind = Both } ∷ record { id = 2; kind = Removed } ∷ record { id = 4_294_967_296; kind = Anchor } ∷ record { id = 9; kind = Cycle } ∷ [])))
    ≡ codes "{\"conflicts\":[{\"id\":1,\"kind\":\"both\"},{\"id\":2,\"kind\":\"removed\"},{\"id\":4294967296,\"kind\":\"anchor\"},{\"id\":9,\"kind\":\"cycle\"}],\"name\":\"Conflicts\"}"
unfolding digits escape_byte
conflicts = refl
