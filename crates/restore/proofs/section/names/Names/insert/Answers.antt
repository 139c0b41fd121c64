use Rattle.restore.proofs.laws.sections.NameLaws.{put}
use Rattle.restore.proofs.section.names.Names.insert.Goals as goal

pub returns-in-Ok-clause-ok : goal.returns-in-Ok-clause-ok
returns-in-Ok-clause-ok c =
    put c.args.self.now c.self.inside.names.keys c.insert.new.self.keys c.in_ok-key.key c.args.name.now c.self.view_is c.in-Ok.ensures.keys (c.in_ok-key.ensures.items_if_clones_equal (λ x y e. e))
