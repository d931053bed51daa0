-- A refusal that is told by its name alone.
use Rattle.report_text.proofs.reply_lines.write_reply.Goals as goal

pub returns-in-NoBranch : goal.returns-in-NoBranch
returns-in-NoBranch c = rw (c.in-NoBranch.is) c.refuse.ensures

pub returns-in-BranchExists : goal.returns-in-BranchExists
returns-in-BranchExists c = rw (c.in-BranchExists.is) c.refuse-in-BranchExists.ensures

pub returns-in-TooManyBranches : goal.returns-in-TooManyBranches
returns-in-TooManyBranches c = rw (c.in-TooManyBranches.is) c.refuse-in-TooManyBranches.ensures

pub returns-in-NoMapping : goal.returns-in-NoMapping
returns-in-NoMapping c = rw (c.in-NoMapping.is) c.refuse-in-NoMapping.ensures
