use Rattle.sessions.proofs.run.session.Session.stands.Goals as goal

pub returns-clause-stands : goal.returns-clause-stands
returns-clause-stands c =
    let t = c.args.self.now.table in
    let sound = c.stands.ensures.sound in
    let classified = c.stands.ensures.classified in
    record {
      sound = sound;
      classified = classified;
      restores = c.listings_restore.ensures.restores t.table sound;
      classifiers = λ made. c.restores_leave_what_they_accept.ensures.classifiers t made sound classified;
    }
