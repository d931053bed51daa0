-- The rules of the grammar of sessions: those of models, and its own.
use Rattle.model_reader.specs.grammar.Rules.{Rule as ModelRule}

pub data Rule : Type 0 where
  session_rule rules_rule mapping_rule feed_rule : Rule
  plan_rule when_rule given_rule client_rule command_rule : Rule
  of_model : ModelRule → Rule
