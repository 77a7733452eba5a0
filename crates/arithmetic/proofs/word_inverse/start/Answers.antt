use Rattle.std.proofs.Common.{◌≡◌, length, ◌∙◌, arith, lit<, rules}
use Rattle.algebra.specs.Stands.{residue_number}
use Rattle.algebra.proofs.Stands.{residues_stand}
use Rattle.arithmetic.specs.Bits.{bit}
use Rattle.arithmetic.proofs.Finding.{bits_none, bits_found}
use Rattle.arithmetic.proofs.Rooms.{in_room}
use Rattle.arithmetic.proofs.word_inverse.start.Goals as goal

pub returns-in_err-inverse_mod_phi : goal.returns-in_err-inverse_mod_phi
returns-in_err-inverse_mod_phi c = record {
  inverse_or_none =
      let places : length c.convert.new.into ≡ length c.args.f.now = c.convert.auto.into ∙ in_room _ c.requires.sizes.1.0 in
      rw c.from_residual.ensures
      (bits_none c.args.f.now c.convert.new.into places (λ k l. c.convert.ensures.converted k 0 (bit 0) l (omega arith))
      (c.in_err-inverse_mod_phi.ensures.over_the_integers 2 (residue_number 2) (residues_stand 2 (lit< tt)) (omega arith, search rules, search rules, search rules, search rules, search rules)));
}

pub returns : goal.returns
returns c = record {
  inverse_or_none =
      let places : length c.convert.new.into ≡ length c.args.f.now = c.convert.auto.into ∙ in_room _ c.requires.sizes.1.0 in
      let found : length c.inverse_mod_phi.new.inverse ≡ length c.args.f.now = c.inverse_mod_phi.auto.inverse ∙ in_room _ c.requires.sizes.1.0 in
      bits_found c.args.f.now c.convert.new.into places (λ k l. c.convert.ensures.converted k 0 (bit 0) l (omega arith)) c.convert-2.new.into c.inverse_mod_phi.new.inverse found (λ k l. c.convert-2.ensures.converted k (bit 0) 0 l (omega arith))
      (c.in_ok-inverse_mod_phi.ensures.over_the_integers 2 (residue_number 2) (residues_stand 2 (lit< tt)));
}
