-- The word of each limit, as a refusal names it.
use Rattle.std.specs.Prelude.{ℕ, List, codes}
use Rattle.readers.specs.declared.limits.Limit.{Limit}
use Rattle.readers.specs.declared.limits.Limit.TheVariants.{Cells, Types, Parameters, Locals, Statements, Enums, Variants, Resources, Daemons, Requires, Depth, Terms, Constraints, Goals, Clients, Commands, Models, Mappings, Datasets, Rules, Steps, Words}

unfoldable pub word_of : Limit → List ℕ
word_of Cells = codes "cells"
word_of Types = codes "types"
word_of Parameters = codes "parameters"
word_of Locals = codes "locals"
word_of Statements = codes "statements"
word_of Enums = codes "enums"
word_of Variants = codes "variants"
word_of Resources = codes "resources"
word_of Daemons = codes "daemons"
word_of Requires = codes "requires"
word_of Depth = codes "depth"
word_of Terms = codes "terms"
word_of Constraints = codes "constraints"
word_of Goals = codes "goals"
word_of Clients = codes "clients"
word_of Commands = codes "commands"
word_of Models = codes "models"
word_of Mappings = codes "mappings"
word_of Datasets = codes "datasets"
word_of Rules = codes "rules"
word_of Steps = codes "steps"
word_of Words = codes "words"
