use Rattle.std.proofs.Common.{refl}
use Rattle.fields.specs.values.NameList.{set_listed}
use Rattle.fields.proofs.values.flag_test.FlagTest.syn.Goals as goal

pub returns : goal.returns
unfolding set_listed
returns c = refl
