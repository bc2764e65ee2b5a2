use Rattle.std.proofs.Common.{◌↔◌, ℕ, List, subst}
use Rattle.net_model.specs.Words.{Word}
use Rattle.net_model.specs.Listings.{Listing, ListingWords}
use Rattle.net_model.specs.Nets.{Net}
use Rattle.net_model.specs.NetTexts.{StandsForNet}
use Rattle.net_model.specs.NetLanguages.{NetWords, StandsForAutomaton}
use Rattle.net_model.specs.Files.{File, NetFile, MachineFile, StandsForFile, FileWords, Means}
use Rattle.net_model.specs.Written.{IsTextName}
use Rattle.net_model.specs.Printed.{IsPrintable, printed_text}
use Rattle.net_model.proofs.OneNet.{one_net}
use Rattle.net_model.proofs.OneFile.{no_machine}
use Rattle.printed_nets.specs.PrintedNets.{acc_place, printed_net}
use Rattle.printed_nets.proofs.Conditioned.{meets_conditions}
use Rattle.printed_nets.proofs.Runs.{is_acc_signal, letters_are, same_words}
use Rattle.printed_nets.proofs.Stood.{text_stands}

-- What the printed text of an automaton stands for, and means.

pub printed_stands : (name : List ℕ) (auto : Listing) → IsTextName name → IsPrintable auto → StandsForNet (printed_text name auto) (printed_net auto)
printed_stands name auto text printable = text_stands name auto text printable (meets_conditions auto)

pub printed_automaton : (name : List ℕ) (auto : Listing) → IsTextName name → IsPrintable auto → StandsForAutomaton (printed_text name auto) auto.vars
printed_automaton name auto text printable = record {
  net = printed_net auto;
  stands = printed_stands name auto text printable;
  automaton = (acc_place auto, is_acc_signal auto, (meets_conditions auto).acceptance (acc_place auto) (is_acc_signal auto));
  letters = letters_are auto;
}

pub printed_means : (name : List ℕ) (auto : Listing) → IsTextName name → IsPrintable auto → (word : Word) → Means (printed_text name auto) auto.vars word ↔ ListingWords auto word
printed_means name auto text printable word =
    let stands = printed_stands name auto text printable in
    let words = same_words auto printable word in (
      λ (file, of_file, letters, in_file). words.0 (net_words stands file of_file in_file),
      λ in'. (NetFile (printed_net auto), stands, letters_are auto, words.1 in'),
    )
  where
    net_words : StandsForNet (printed_text name auto) (printed_net auto) → (file : File) → StandsForFile (printed_text name auto) file → FileWords file word → NetWords (printed_net auto) word
    net_words stands (NetFile net) of_net in_net = subst (λ (n : Net). NetWords n word) (one_net (printed_text name auto) net (printed_net auto) of_net stands) in_net
    net_words stands (MachineFile machine) of_machine in_machine = absurd (no_machine (printed_text name auto) (printed_net auto) machine stands of_machine)
