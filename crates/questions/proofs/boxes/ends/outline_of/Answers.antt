use Rattle.questions.proofs.boxes.ends.outline_of.Goals as goal

pub returns : goal.returns
returns c = λ numbers point inside. record {
  source = c.ends_on.ensures numbers point inside;
  destination = c.ends_on-2.ensures numbers point inside;
  protocol = c.ends_on-3.ensures numbers point inside;
  source_port = c.ends_on-4.ensures numbers point inside;
  destination_port = c.ends_on-5.ensures numbers point inside;
}
