use Rattle.std.proofs.Common.{◌≡◌, ◌≤◌, ℕ, List, Ok, IsUtf8, length, subst}
use Rattle.session_reader.specs.SessionTexts.{byte_limit, text_answer}
use Rattle.session_judge.proofs.Uncut.{uncut_refused}
use Rattle.session_judge.proofs.judging.judge_uncut.Goals as goal

-- a text that cannot be cut is no session
pub unreachable-requires : goal.unreachable-requires
unreachable-requires c =
    uncut_refused c.args.text.now c.args.at c.in-Ok.field-0 c.requires.uncut
    (subst (λ (bytes : List ℕ). length bytes ≤ byte_limit → IsUtf8 bytes → text_answer bytes ≡ Ok c.in-Ok.field-0) c.as_bytes.ensures.value c.in-Ok.ensures.exact c.requires.short c.utf8.text)
