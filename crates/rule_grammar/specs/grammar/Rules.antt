-- The rules of the grammars of constraints, of goals and of sequences.

pub data Rule : Type 0 where
  constraints_rule window_rule conj_rule atom_rule wsum_rule wterm_rule sdur_rule : Rule
  goals_rule kind_rule anchor_rule range_rule given_rule : Rule
  sequence_rule step_rule word_rule literal_rule : Rule
