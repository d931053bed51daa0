-- What the tokens of a text say of it.
use Rattle.std.proofs.Common.{◌≡◌, length, Err}
use Rattle.aerie_text.specs.Tokens.{tokens_of}
use Rattle.aerie_text.proofs.Cuts.{all_edges, all_within, are_tokens, bad_edge, first_bad}
use Rattle.aerie_text.proofs.Scanning.{bad_case, bad_case_of, ok_case}
use Rattle.aerie_text.proofs.scanner.token_list.Goals as goal

pub returns-clause-cut : goal.returns-clause-cut
returns-clause-cut c = ok_case _ _ _ _ c.scan.ensures.exact (λ tokens exact. are_tokens c.args.text.now tokens exact)

pub returns-clause-edges : goal.returns-clause-edges
returns-clause-edges c =
    ok_case _ _ _ _ c.scan.ensures.exact
    (λ tokens exact. all_edges c.args.text.now 0 (length c.args.text.now) tokens c.utf8.text (are_tokens c.args.text.now tokens exact))

pub returns-clause-first : goal.returns-clause-first
returns-clause-first c = λ at refused. first_bad c.args.text.now at (bad_case _ _ (λ place. tokens_of c.args.text.now ≡ Err place) c.scan.ensures.exact at refused)

pub returns-clause-edge : goal.returns-clause-edge
returns-clause-edge c =
    bad_case_of c.args.text.now _ _ (λ place. tokens_of c.args.text.now ≡ Err place) c.scan.ensures.exact
    (λ at refused. bad_edge c.args.text.now at c.utf8.text (first_bad c.args.text.now at refused))

pub returns-clause-within : goal.returns-clause-within
returns-clause-within c = ok_case _ _ _ _ c.scan.ensures.exact (λ tokens exact. all_within c.args.text.now tokens exact)
