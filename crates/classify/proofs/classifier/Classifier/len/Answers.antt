use Rattle.std.proofs.Common.{◌<◌, subst}
use Rattle.classify.specs.Classifier.{ClassifiedAndRoom}
use Rattle.classify.proofs.laws.classifier.ClassifierLaws.{last_words_room}
use Rattle.classify.proofs.classifier.Classifier.len.Goals as goal

pub returns-clause-room : goal.returns-clause-room
returns-clause-room c part =
    let P : ClassifiedAndRoom → Type 0 = λ k. 0 < k.room in
    subst P c.self.view_is (last_words_room c.self.inside.lines c.self.inside.len c.self.invariant.0 part)
