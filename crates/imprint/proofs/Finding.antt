-- The pieces that are found in a file are its imprint input.
use Rattle.std.proofs.Common.{◌≡◌, ℕ, List, ◌++◌, ◌∙◌}
use Rattle.cms.specs.declared.located.Message.{Message}
use Rattle.cms.specs.declared.located.Signer.{Signer as Located}
use Rattle.model.specs.Files.{File}
use Rattle.model.specs.Parts.{Signer}
use Rattle.message.specs.Lies.{Lies, SignerLies}
use Rattle.message.proofs.SignerParts.{six_stand}
use Rattle.stamp_model.specs.Covering.{input_of}
use Rattle.imprint.specs.declared.pieces.Input.{Input}
use Rattle.imprint.specs.Inputs.{bytes_of, Found}

four_same : (a b c d a' b' c' d' : List ℕ) → a ≡ a' → b ≡ b' → c ≡ c' → d ≡ d' → a ++ (b ++ (c ++ d)) ≡ a' ++ (b' ++ (c' ++ d'))
four_same a b c d a' b' c' d' p q r s = cc

module _ (file : List ℕ) (m : Message) (x : Located) (digest index : List ℕ) (input : Input) (found : Found file m x digest index input) where
  pub found_input : (f : File) (s : Signer) → Lies file m f → SignerLies file x s → bytes_of input ≡ input_of f s digest index
  found_input f s l w =
      four_same input.content_type.now input.content_digest.now input.fields.now input.index.now _ _ _ _
      (found.content_type ∙ l.content_type) found.content (found.fields ∙ (six_stand file x s w).bytes) found.carried
