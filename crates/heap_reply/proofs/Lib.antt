mod DigitLaws
mod JoinedPieces
mod ShortTextLaws
