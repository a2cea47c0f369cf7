use Rattle.assembler.proofs.AddressedTexts.{assembles_back_from}
use Rattle.assembler.proofs.laws.addressed_listings_assemble.Goals as goal

pub returns : goal.returns
returns c =
    assembles_back_from (record {
      tokens = c.lines_say_their_words.ensures.tokens;
      statement = c.lines_say_their_words.ensures.statement;
      single = c.lines_are_single.ensures;
      read_back = c.lines_are_read_back.ensures.ended;
      found = c.mnemonics_tell_apart.ensures.found;
      fits = c.fields_fit.ensures.fits;
      is_word = c.means_is_word.ensures;
      meant = c.decoded_is_meant.ensures;
    }) (record {
      tokens = c.addresses_say_nothing.ensures.tokens;
      statement = c.addresses_say_nothing.ensures.statement;
      single = c.addresses_say_nothing.ensures.single;
    })
