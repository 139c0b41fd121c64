use Rattle.dumps.proofs.laws.ApartLaws.{one_way, never_both, refused_one_way, has_outcome}
use Rattle.dumps.proofs.apart.taking.apart_in_one_way.Goals as goal

pub returns : goal.returns
returns c = record { one = one_way; never_both = never_both; refused = refused_one_way; outcome = has_outcome }
