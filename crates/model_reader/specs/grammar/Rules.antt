-- The rules of the grammar of models.

pub data Rule : Type 0 where
  model_rule item_rule param_rule type_rule int_rule literal_rule read_rule : Rule
  stmt_rule block_rule invoke_rule : Rule
  expr_rule and_rule compare_rule sum_rule product_rule unary_rule primary_rule : Rule
