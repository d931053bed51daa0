-- The line of a summary.
use Rattle.std.specs.Prelude.{ℕ, codes}
use Rattle.serde_json.specs.Data.{Data, member, no_members, object}
use Rattle.json_line.specs.Numbers.{natural_data}
use Rattle.session_run.specs.declared.summary.Summary.{Summary}

-- what is counted of a generated session with so many directives and clients; the keys in the order of their bytes
abbrev pub summary_data : ℕ → ℕ → Summary → Data
summary_data number clients summary =
    object (member (codes "clients") (natural_data clients)
    (member (codes "commands") (natural_data summary.commands)
    (member (codes "completed") (natural_data summary.completed)
    (member (codes "number") (natural_data number)
    (member (codes "placed") (natural_data summary.placed)
    (member (codes "refused") (natural_data summary.refused)
    (member (codes "spans") (natural_data summary.spans)
    (member (codes "stopped") (natural_data summary.stopped)
    (member (codes "violations") (natural_data summary.violations) no_members)))))))))
