mod LastLine
