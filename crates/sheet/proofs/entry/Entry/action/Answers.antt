use Rattle.std.proofs.Common.{◌∙◌, arith}
use Rattle.sheet.proofs.Entries.{action_inside, action_stands}
use Rattle.sheet.proofs.entry.Entry.action.Goals as goal

pub overflow_add-self : goal.overflow_add-self
overflow_add-self c = omega (arith, action_inside c.args.self.now c.requires)

pub action_at-requires : goal.action_at-requires
action_at-requires c = action_inside c.args.self.now c.requires

pub returns : goal.returns
returns c = c.action_at.ensures ∙ action_stands c.args.self.now c.requires
